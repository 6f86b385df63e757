use Rattle.std.proofs.Common.{◌≡◌, ◌∙◌, sym, ap, arith, None}
use Rattle.std.specs.Prelude.{is_some}
use Rattle.row_store.specs.StoredRows.{StoredRow, rowid_of, row_of, without}
use Rattle.row_store.specs.inner.Views.{seen_rows}
use Rattle.row_store.proofs.RemoveLaws.{left-tied, left-rows, was-there, one-less, left-kept, left-origin, without-none}
use Rattle.row_store.proofs.store.RowStore.remove.Goals as goal

pub returns-in_default-clause-rows : goal.returns-in_default-clause-rows
returns-in_default-clause-rows c =
    let view : seen_rows c.self.inside.rows ≡ c.args.self.now.rows = ap (λ s. s.rows) c.self.view_is in
    let none : row_of c.args.rowid.now (seen_rows c.self.inside.rows) ≡ None = rw c.in_default.is at c.in_ok-place.ensures.found in
    c.find.ensures.rows ∙ sym (without-none rowid_of c.args.rowid.now (seen_rows c.self.inside.rows) none) ∙ ap (without c.args.rowid.now) view

pub overflow_sub-self : goal.overflow_sub-self
overflow_sub-self c =
    let n = one-less c.self.inside.shape c.self.inside.count c.self.inside.touched c.find.new.touched c.self.inside.rows c.find.new.rows c.drop_row.new.parts c.args.rowid.now c.in-Some.place
    c.self.invariant c.find.ensures.parts c.find.ensures.tied c.find.ensures.rows c.find.ensures.size c.find.ensures.wider (rw c.in-Some.is at c.in_ok-place.ensures.found) c.known.ensures.rising c.in_ok-drop_row.ensures.changed c.in_ok-drop_row.ensures.shapes in
    omega (arith, n)

pub try_settle-requires : goal.try_settle-requires
try_settle-requires c = record {
  tied = left-tied c.self.inside.shape c.self.inside.count c.self.inside.touched c.find.new.touched c.self.inside.rows c.find.new.rows c.drop_row.new.parts c.args.rowid.now c.in-Some.place
      c.self.invariant c.find.ensures.parts c.find.ensures.tied c.find.ensures.rows c.find.ensures.size c.find.ensures.wider (rw c.in-Some.is at c.in_ok-place.ensures.found) c.known.ensures.rising c.in_ok-drop_row.ensures.changed c.in_ok-drop_row.ensures.shapes;
}

pub invariant_of-self-2 : goal.invariant_of-self-2
invariant_of-self-2 c =
    left-kept c.self.inside.shape c.self.inside.count c.self.inside.touched c.find.new.touched c.self.inside.rows c.find.new.rows c.drop_row.new.parts c.args.rowid.now c.in-Some.place
    c.self.invariant c.find.ensures.parts c.find.ensures.tied c.find.ensures.rows c.find.ensures.size c.find.ensures.wider (rw c.in-Some.is at c.in_ok-place.ensures.found) c.known.ensures.rising c.in_ok-drop_row.ensures.changed c.in_ok-drop_row.ensures.shapes
    c.try_settle.new.rows c.try_settle.ensures.parts c.try_settle.ensures.tied c.try_settle.ensures.rows c.try_settle.ensures.size

pub returns-clause-rows : goal.returns-clause-rows
returns-clause-rows c =
    rw (sym c.self.view_is) (c.try_settle.ensures.rows ∙ left-rows c.self.inside.shape c.self.inside.count c.self.inside.touched c.find.new.touched c.self.inside.rows c.find.new.rows c.drop_row.new.parts c.args.rowid.now c.in-Some.place
    c.self.invariant c.find.ensures.parts c.find.ensures.tied c.find.ensures.rows c.find.ensures.size c.find.ensures.wider (rw c.in-Some.is at c.in_ok-place.ensures.found) c.known.ensures.rising c.in_ok-drop_row.ensures.changed c.in_ok-drop_row.ensures.shapes)

pub returns-clause-answer : goal.returns-clause-answer
returns-clause-answer c =
    rw (sym c.self.view_is) (sym (ap (is_some {T = StoredRow}) (was-there c.self.inside.shape c.self.inside.count c.self.inside.touched c.find.new.touched c.self.inside.rows c.find.new.rows c.drop_row.new.parts c.args.rowid.now c.in-Some.place
    c.self.invariant c.find.ensures.parts c.find.ensures.tied c.find.ensures.rows c.find.ensures.size c.find.ensures.wider (rw c.in-Some.is at c.in_ok-place.ensures.found) c.known.ensures.rising c.in_ok-drop_row.ensures.changed c.in_ok-drop_row.ensures.shapes).1))

pub returns-clause-origin : goal.returns-clause-origin
returns-clause-origin c =
    rw (sym c.self.view_is) (left-origin c.self.inside.shape c.self.inside.count c.self.inside.touched c.find.new.touched c.self.inside.rows c.find.new.rows c.drop_row.new.parts c.args.rowid.now c.in-Some.place
    c.self.invariant c.find.ensures.parts c.find.ensures.tied c.find.ensures.rows c.find.ensures.size c.find.ensures.wider (rw c.in-Some.is at c.in_ok-place.ensures.found) c.known.ensures.rising c.in_ok-drop_row.ensures.changed c.in_ok-drop_row.ensures.shapes
    _ c.try_settle.ensures.rows)
