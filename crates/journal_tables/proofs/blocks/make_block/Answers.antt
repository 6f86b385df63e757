use Rattle.std.proofs.Common.{Bool, ℕ, List, take, subst, arith}
use Rattle.shadow_keeper.specs.Keeping.{tables_of}
use Rattle.journal_format.specs.Reading.{batch_of}
use Rattle.journal_tables.specs.Making.{MakesBatch}
use Rattle.journal_tables.proofs.StopLaws.{number_long, short_length, short_body, block_made, block_damaged}
use Rattle.journal_tables.proofs.blocks.make_block.Goals as goal

pub returns-in_default : goal.returns-in_default
returns-in_default c = record { block = short_length c.args.bytes.now c.args.number (tables_of c.args.tables.now.entries) c.in_default.ensures }

pub returns-then-rest-len : goal.returns-then-rest-len
returns-then-rest-len c =
    let x : ℕ × List ℕ = (c.in-Some.len, c.in-Some.rest.now) in
    let long = number_long c.args.bytes.now x c.in-Some.ensures in
    record { block = short_body c.args.bytes.now c.args.number (tables_of c.args.tables.now.entries) x c.saturating_add.result c.in-Some.ensures c.if-rest-len.true (omega (arith, long, c.saturating_add.ensures, c.if-rest-len.true)) (omega (arith, c.saturating_add.ensures)) }

pub returns-then-branch : goal.returns-then-branch
returns-then-branch c =
    let old = tables_of c.args.tables.now.entries in
    let new = tables_of c.make_batch.new.tables.entries in
    let P : Bool → Type 0 = λ b. MakesBatch (batch_of (take c.in-Some.len c.in-Some.rest.now) c.args.number old) old b new in
    record { block = block_made c.args.bytes.now c.args.number old new (c.in-Some.len, c.in-Some.rest.now) c.in-Some.ensures c.if-rest-len.false (subst P c.if-branch.true c.in_ok-make_batch.ensures.batch) }

pub returns : goal.returns
returns c =
    let old = tables_of c.args.tables.now.entries in
    let new = tables_of c.make_batch.new.tables.entries in
    let P : Bool → Type 0 = λ b. MakesBatch (batch_of (take c.in-Some.len c.in-Some.rest.now) c.args.number old) old b new in
    record { block = block_damaged c.args.bytes.now c.args.number old new (c.in-Some.len, c.in-Some.rest.now) c.in-Some.ensures c.if-rest-len.false (subst P c.if-branch.false c.in_ok-make_batch.ensures.batch) }
