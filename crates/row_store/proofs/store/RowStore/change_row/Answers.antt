use Rattle.std.proofs.Common.{◌≡◌, ◌∙◌, sym, ap, subst, None}
use Rattle.row_store.specs.StoredRows.{row_of, with_changed}
use Rattle.row_store.specs.inner.Changes.{Fits, row_changed}
use Rattle.row_store.specs.inner.Parts.{ArePartsOf}
use Rattle.row_store.specs.inner.Views.{seen_rows}
use Rattle.row_store.proofs.ChangeLaws.{changed-none, changed-seen, changed-kept, changed-there, changed-origin, part-fits}
use Rattle.row_store.proofs.store.RowStore.change_row.Goals as goal

pub returns-in_default-clause-rows : goal.returns-in_default-clause-rows
returns-in_default-clause-rows c =
    let view : seen_rows c.self.inside.rows ≡ c.args.self.now.rows = ap (λ s. s.rows) c.self.view_is in
    let none : row_of c.args.rowid.now (seen_rows c.self.inside.rows) ≡ None = rw c.in_default.is at c.in_ok-place.ensures.found in
    c.find.ensures.rows ∙ sym (changed-none (row_changed c.args.change.now) c.args.rowid.now (seen_rows c.self.inside.rows) none) ∙ ap (with_changed c.args.rowid.now (row_changed c.args.change.now)) view

pub change_row-requires-clause-fits : goal.change_row-requires-clause-fits
change_row-requires-clause-fits c =
    part-fits c.self.inside.shape c.find.new.rows.parts c.in-Some.place.chunk c.args.change.now (subst (ArePartsOf c.self.inside.shape) (sym c.find.ensures.parts) c.self.invariant.shapes)
    (subst (λ s. Fits s.widths s.kinds c.args.change.now) (sym c.self.view_is) c.requires)

pub invariant_of-self-2 : goal.invariant_of-self-2
invariant_of-self-2 c =
    changed-kept c.self.inside.shape c.self.inside.count c.self.inside.touched c.find.new.touched c.self.inside.rows c.find.new.rows c.change_row.new.parts c.args.rowid.now c.in-Some.place c.args.change.now
    c.self.invariant c.find.ensures.parts c.find.ensures.tied c.find.ensures.rows c.find.ensures.size c.find.ensures.wider (rw c.in-Some.is at c.in_ok-place.ensures.found) c.known.ensures.rising
    (subst (λ s. Fits s.widths s.kinds c.args.change.now) (sym c.self.view_is) c.requires) c.in_ok-change_row.ensures.changed c.in_ok-change_row.ensures.shapes

pub returns-clause-rows : goal.returns-clause-rows
returns-clause-rows c =
    let view : seen_rows c.self.inside.rows ≡ c.args.self.now.rows = ap (λ s. s.rows) c.self.view_is in
    changed-seen c.self.inside.shape c.self.inside.count c.self.inside.touched c.find.new.touched c.self.inside.rows c.find.new.rows c.change_row.new.parts c.args.rowid.now c.in-Some.place c.args.change.now
    c.self.invariant c.find.ensures.parts c.find.ensures.tied c.find.ensures.rows c.find.ensures.size c.find.ensures.wider (rw c.in-Some.is at c.in_ok-place.ensures.found) c.known.ensures.rising
    (subst (λ s. Fits s.widths s.kinds c.args.change.now) (sym c.self.view_is) c.requires) c.in_ok-change_row.ensures.changed c.in_ok-change_row.ensures.shapes
    ∙ ap (with_changed c.args.rowid.now (row_changed c.args.change.now)) view

pub returns-clause-answer : goal.returns-clause-answer
returns-clause-answer c =
    rw (sym c.self.view_is) (sym (changed-there c.self.inside.shape c.self.inside.count c.self.inside.touched c.find.new.touched c.self.inside.rows c.find.new.rows c.change_row.new.parts c.args.rowid.now c.in-Some.place c.args.change.now
    c.self.invariant c.find.ensures.parts c.find.ensures.tied c.find.ensures.rows c.find.ensures.size c.find.ensures.wider (rw c.in-Some.is at c.in_ok-place.ensures.found) c.known.ensures.rising
    (subst (λ s. Fits s.widths s.kinds c.args.change.now) (sym c.self.view_is) c.requires) c.in_ok-change_row.ensures.changed c.in_ok-change_row.ensures.shapes))

pub returns-clause-origin : goal.returns-clause-origin
returns-clause-origin c =
    rw (sym c.self.view_is) (changed-origin c.self.inside.shape c.self.inside.count c.self.inside.touched c.find.new.touched c.self.inside.rows c.find.new.rows c.change_row.new.parts c.args.rowid.now c.in-Some.place c.args.change.now
    c.self.invariant c.find.ensures.parts c.find.ensures.tied c.find.ensures.rows c.find.ensures.size c.find.ensures.wider (rw c.in-Some.is at c.in_ok-place.ensures.found) c.known.ensures.rising
    (subst (λ s. Fits s.widths s.kinds c.args.change.now) (sym c.self.view_is) c.requires) c.in_ok-change_row.ensures.changed c.in_ok-change_row.ensures.shapes)
