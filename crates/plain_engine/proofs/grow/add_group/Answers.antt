use Rattle.std.proofs.Common.{rules, ◌≡◌, None, ap, sym, ◌∙◌, w64, SFits}
use Rattle.std.proofs.lemmas.Int.{to_z-of_z}
use Rattle.row_model.specs.declared.row.Row.{Row}
use Rattle.row_model.specs.Change.{assigned}
use Rattle.row_model.specs.Rows.{with_row}
use Rattle.plain_engine.specs.inner.ByteTotals.{total_beside}
use Rattle.plain_engine.proofs.TopLaws.{ordered_with}
use Rattle.plain_engine.proofs.grow.add_group.Goals as goal

pub returns-clause-counted : goal.returns-clause-counted
returns-clause-counted c = λ other is none.
    let kept : c.row_refusal-refusal.result ≡ None = search rules in
    let same : c.in_ok-row.row.rowid ≡ assigned c.args.table.now.top c.given_rowid-rowid.result =
    ap (λ (row : Row). row.rowid) c.in_ok-row.ensures ∙ ap (assigned c.args.table.now.top) (sym c.given_rowid-rowid.ensures) in
    let put : c.insert.new.self ≡ with_row c.in_ok-row.row c.args.table.now.rows =
    c.in_ok-insert.ensures.ok ∙ (rw c.as_slice.ensures at c.in-Ok.ensures.place) (c.row_refusal-refusal.ensures.left kept) c.in_ok-row.row same in
    c.with-more.ensures other c.args.table.now.rows is ∙ ap (total_beside other) (sym put)

pub returns-clause-still_ordered : goal.returns-clause-still_ordered
returns-clause-still_ordered c =
    let kept : c.row_refusal-refusal.result ≡ None = search rules in
    let same : c.in_ok-row.row.rowid ≡ assigned c.args.table.now.top c.given_rowid-rowid.result =
    ap (λ (row : Row). row.rowid) c.in_ok-row.ensures ∙ ap (assigned c.args.table.now.top) (sym c.given_rowid-rowid.ensures) in
    let put : c.insert.new.self ≡ with_row c.in_ok-row.row c.args.table.now.rows =
    c.in_ok-insert.ensures.ok ∙ (rw c.as_slice.ensures at c.in-Ok.ensures.place) (c.row_refusal-refusal.ensures.left kept) c.in_ok-row.row same in
    let fits : SFits w64 c.larger-top.result = search rules in
    ordered_with c.args.table.now c.insert.new.self c.in_ok-row.row c.given_rowid-rowid.result _ c.requires.ordered
    (rw c.as_slice.ensures at c.in-Ok.ensures.free) (c.row_refusal-refusal.ensures.left kept) same put (to_z-of_z w64 c.larger-top.result fits ∙ c.larger-top.ensures)
