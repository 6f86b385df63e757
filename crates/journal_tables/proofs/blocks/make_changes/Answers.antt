use Rattle.std.proofs.Common.{arith, ◌≡◌, ◌<◌, ℕ, true, false, cond, List, length, None, sym, ap, ◌∙◌}
use Rattle.std.proofs.lemmas.List.{nil_from_length}
use Rattle.shadow_records.specs.Batches.{changed}
use Rattle.journal_format.specs.Fitting.{applies}
use Rattle.shadow_keeper.specs.Keeping.{tables_of}
use Rattle.journal_format.specs.Views.{change_of}
use Rattle.journal_tables.specs.Making.{tables_after}
use Rattle.journal_tables.proofs.RunLaws.{after_none, after_more, after_not}
use Rattle.journal_format.proofs.ChangeLaws.{change_less}
use Rattle.journal_tables.proofs.blocks.make_changes.Goals as goal

pub returns-in_default : goal.returns-in_default
returns-in_default c =
    let some : 0 < length c.loop-rest.rest.now = grind (arith, c.loop-rest-test.true, c.is_empty.ensures) in
    sym c.loop-rest.invariant ∙ after_not c.loop-rest.rest.now (tables_of c.loop-rest.tables.entries) some c.in_default.ensures

pub returns-then-not-branch : goal.returns-then-not-branch
returns-then-not-branch c =
    let some : 0 < length c.loop-rest.rest.now = grind (arith, c.loop-rest-test.true, c.is_empty.ensures) in
    let m = tables_of c.loop-rest.tables.entries in
    let change = change_of c.in-Some.change in
    let not : applies change m ≡ false = sym c.in_ok-make_change.ensures.applies ∙ c.if-not-branch.true in
    sym c.loop-rest.invariant ∙ after_more c.loop-rest.rest.now m (change, c.in-Some.behind.now) some c.in-Some.ensures
    ∙ ap (λ b. cond b (tables_after c.in-Some.behind.now (changed change m)) None) not

pub loop-rest-smaller : goal.loop-rest-smaller
loop-rest-smaller c = change_less c.loop-rest.rest.now (change_of c.in-Some.change, c.in-Some.behind.now) c.in-Some.ensures

pub loop-rest-preserved : goal.loop-rest-preserved
loop-rest-preserved c =
    let some : 0 < length c.loop-rest.rest.now = grind (arith, c.loop-rest-test.true, c.is_empty.ensures) in
    let m = tables_of c.loop-rest.tables.entries in
    let change = change_of c.in-Some.change in
    let yes : applies change m ≡ true = sym c.in_ok-make_change.ensures.applies ∙ c.if-not-branch.false in
    ap (tables_after c.in-Some.behind.now) (c.in_ok-make_change.ensures.made c.if-not-branch.false)
    ∙ sym (ap (λ b. cond b (tables_after c.in-Some.behind.now (changed change m)) None) yes)
    ∙ sym (after_more c.loop-rest.rest.now m (change, c.in-Some.behind.now) some c.in-Some.ensures)
    ∙ c.loop-rest.invariant

pub returns : goal.returns
returns c =
    let none : length c.loop-rest.rest.now ≡ 0 = grind (arith, c.loop-rest-test.false, c.is_empty.ensures) in
    let m = tables_of c.loop-rest.tables.entries in
    sym c.loop-rest.invariant ∙ ap (λ (l : List ℕ). tables_after l m) (nil_from_length c.loop-rest.rest.now none) ∙ after_none m
