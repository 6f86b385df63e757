use Rattle.std.proofs.Common.{◌≡◌, cond, Some, None}
use Rattle.std.proofs.lemmas.Result.{IfOk-weaker}
use Rattle.shadow_keeper.specs.Keeping.{tables_of}
use Rattle.journal_format.specs.Reading.{batch_of}
use Rattle.journal_tables.specs.Making.{tables_after, MakesBatch}
use Rattle.journal_tables.proofs.RunLaws.{batch_no_number, batch_other_number, batch_made}
use Rattle.journal_tables.proofs.blocks.make_batch.Goals as goal

pub returns-in_default : goal.returns-in_default
returns-in_default c = record { batch = batch_no_number c.args.body.now c.args.number (tables_of c.args.tables.now.entries) c.in_default.ensures }

pub returns-then-given-number : goal.returns-then-given-number
returns-then-given-number c = record { batch = batch_other_number c.args.body.now c.args.number (tables_of c.args.tables.now.entries) (c.in-Some.given, c.in-Some.changes.now) c.in-Some.ensures c.if-given-number.true }

pub returns : goal.returns
returns c = record {
  batch = IfOk-weaker c.make_changes.result
      (λ b. tables_after c.in-Some.changes.now (tables_of c.args.tables.now.entries) ≡ cond b (Some (tables_of c.make_changes.new.tables.entries)) None)
      (λ b. MakesBatch (batch_of c.args.body.now c.args.number (tables_of c.args.tables.now.entries)) (tables_of c.args.tables.now.entries) b (tables_of c.make_changes.new.tables.entries))
      (λ b ran. batch_made c.args.body.now c.args.number (tables_of c.args.tables.now.entries) (tables_of c.make_changes.new.tables.entries) (c.in-Some.given, c.in-Some.changes.now) b c.in-Some.ensures c.if-given-number.false ran) c.make_changes.ensures;
}
