use Rattle.std.proofs.Common.{◌<◌, ◌+◌, Some, None, true, get_or, set, length, ap, ap₂, sym, ◌∙◌, arith, length-set}
use Rattle.std.specs.List.{count_by}
use Rattle.std.proofs.lemmas.Int.{to_z-of_z}
use Rattle.std.specs.Int.{w64}
use Rattle.chunk_slots.specs.inner.Rows.{rows_of}
use Rattle.chunk_slots.proofs.RowLaws.{row_placed, length_rows, is_clear, one_more}
use Rattle.chunk_slots.proofs.rows.Rows.place.Goals as goal

pub set-requires : goal.set-requires
set-requires c =
    omega (arith, c.requires.slot, c.from.ensures, ap length c.self.view_is, c.self.invariant.0, length_rows c.self.inside.valid c.self.inside.rowids c.self.invariant.0)

pub set-requires-2 : goal.set-requires-2
set-requires-2 c = omega (arith, c.requires.slot, ap length c.self.view_is, length_rows c.self.inside.valid c.self.inside.rowids c.self.invariant.0)

pub invariant_of-self-2 : goal.invariant_of-self-2
invariant_of-self-2 c =
    let bits = c.self.inside.valid in
    let rowids = c.self.inside.rowids in
    let within : c.args.slot < length bits = omega (arith, c.requires.slot, ap length c.self.view_is, length_rows bits rowids c.self.invariant.0) in
    let clear = is_clear bits rowids c.args.slot c.self.invariant.0 (ap (λ rows. get_or rows c.args.slot None) c.self.view_is ∙ c.requires.free) in
    let count = one_more bits c.args.slot within clear in
    let size = ap length c.set-2.ensures ∙ length-set bits c.args.slot true in
    let rows = ap length (c.in_ok-set.ensures {u = tt}) ∙ length-set rowids c.from.result _ in (
      omega (arith, rows, size, c.self.invariant.0),
      ap (λ n. n + 1) c.self.invariant.1 ∙ sym count ∙ ap (count_by (λ bit. bit)) (sym c.set-2.ensures),
      omega (arith, size, c.self.invariant.2),
    )

pub returns : goal.returns
returns c =
    let rowids = c.self.inside.rowids in
    let number = to_z-of_z w64 c.args.rowid c.ranges.rowid in
    let made = c.in_ok-set.ensures {u = tt} ∙ ap₂ (λ n rowid. set rowids n rowid) c.from.ensures number in
    ap₂ rows_of c.set-2.ensures made
    ∙ row_placed c.self.inside.valid rowids c.args.slot c.args.rowid c.self.invariant.0
    ∙ ap (λ rows. set rows c.args.slot (Some c.args.rowid)) c.self.view_is
