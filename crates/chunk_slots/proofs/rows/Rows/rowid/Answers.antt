use Rattle.std.proofs.Common.{◌≡◌, Some, None, pos, get_or, length, ap, sym, ◌∙◌, arith, rules}
use Rattle.std.proofs.lemmas.Int.{to_z-of_z}
use Rattle.std.specs.Int.{w64}
use Rattle.chunk_slots.specs.inner.Rows.{row_of}
use Rattle.chunk_slots.proofs.RowLaws.{get_row, length_rows}
use Rattle.chunk_slots.proofs.rows.Rows.rowid.Goals as goal

pub get-requires : goal.get-requires
get-requires c = omega (arith, c.requires, ap length c.self.view_is, length_rows c.self.inside.valid c.self.inside.rowids c.self.invariant.0)

pub returns-then-get : goal.returns-then-get
returns-then-get c =
    let rowid = c.get-then-get.result.now in
    let number = to_z-of_z w64 rowid (search rules) in
    let here : rowid ≡ get_or c.self.inside.rowids c.args.slot rowid = c.get-then-get.ensures ∙ ap (λ n. get_or c.self.inside.rowids n rowid) c.from.ensures in
    ap Some (number ∙ here)
    ∙ ap (λ bit. row_of bit (get_or c.self.inside.rowids c.args.slot rowid)) (sym c.if-get.true ∙ c.get.ensures)
    ∙ sym (get_row c.self.inside.valid c.self.inside.rowids c.args.slot rowid c.self.invariant.0)
    ∙ ap (λ rows. get_or rows c.args.slot None) c.self.view_is

pub returns-else-get : goal.returns-else-get
returns-else-get c =
    ap (λ bit. row_of bit (get_or c.self.inside.rowids c.args.slot (pos 0))) (sym c.if-get.false ∙ c.get.ensures)
    ∙ sym (get_row c.self.inside.valid c.self.inside.rowids c.args.slot (pos 0) c.self.invariant.0)
    ∙ ap (λ rows. get_or rows c.args.slot None) c.self.view_is
