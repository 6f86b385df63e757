use Rattle.std.proofs.Common.{ℤ, Some, rules, sym, subst, w64, SFits}
use Rattle.std.proofs.lemmas.Int.{to_z-of_z}
use Rattle.std.specs.Ordering.{int_eq}
use Rattle.table_changes.specs.inner.KeySets.{is_not_behind, is_row_kind, is_within}
use Rattle.table_changes.specs.inner.Steps.{TurnsKeys}
use Rattle.table_changes.specs.inner.Turns.{newer_in, older_in}
use Rattle.table_changes.proofs.KeySetLaws.{rowid_more, rowids_end}
use Rattle.table_changes.proofs.changes.rows.Goals as goal

pub loop-rowid-preserved : goal.loop-rowid-preserved
loop-rowid-preserved c =
    let fits : SFits w64 c.in-Some.rowid = search rules in
    let same = to_z-of_z w64 c.in-Some.rowid fits in
    let P : ℤ → Type 0 = λ i. TurnsKeys (is_within is_row_kind c.args.number (is_not_behind (Some i))) (older_in c.args.turn.now) (newer_in c.args.turn.now) c.args.changes.now c.row_records.new.changes in
    let Q : ℤ → Type 0 = λ i. TurnsKeys (is_within is_row_kind c.args.number (λ j. int_eq j i)) (older_in c.args.turn.now) (newer_in c.args.turn.now) c.loop-rowid.changes c.row_records.new.changes in
    subst P (sym same)
    (rowid_more is_row_kind c.args.number c.loop-rowid.last c.in-Some.rowid (older_in c.args.turn.now) (newer_in c.args.turn.now) c.args.changes.now c.loop-rowid.changes c.row_records.new.changes
    c.loop-rowid.invariant (subst Q same c.in_ok-row_records.ensures) c.in-Some.ensures.0 c.in-Some.ensures.1)

pub returns : goal.returns
returns c =
    rowids_end is_row_kind c.args.number c.loop-rowid.last (older_in c.args.turn.now) (newer_in c.args.turn.now) c.args.changes.now c.loop-rowid.changes
    c.loop-rowid.invariant c.in_default.ensures
