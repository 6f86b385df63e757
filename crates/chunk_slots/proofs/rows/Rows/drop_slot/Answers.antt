use Rattle.std.proofs.Common.{None, false, get_or, length, ap, ◌∙◌, set, arith, length-set}
use Rattle.std.specs.List.{count_by}
use Rattle.std.specs.Option.{is_some}
use Rattle.chunk_slots.specs.inner.Rows.{rows_of}
use Rattle.chunk_slots.proofs.RowLaws.{row_dropped, is_set, set_within, one_less}
use Rattle.chunk_slots.proofs.rows.Rows.drop_slot.Goals as goal

pub clear-requires : goal.clear-requires
clear-requires c =
    let seen = ap (λ rows. is_some (get_or rows c.args.slot None)) c.self.view_is ∙ c.requires in
    set_within c.self.inside.valid c.args.slot (is_set c.self.inside.valid c.self.inside.rowids c.args.slot c.self.invariant.0 seen)

pub overflow_sub-self : goal.overflow_sub-self
overflow_sub-self c =
    let seen = ap (λ rows. is_some (get_or rows c.args.slot None)) c.self.view_is ∙ c.requires in
    omega (arith, c.self.invariant.1, one_less c.self.inside.valid c.args.slot (is_set c.self.inside.valid c.self.inside.rowids c.args.slot c.self.invariant.0 seen))

pub invariant_of-self : goal.invariant_of-self
invariant_of-self c =
    let bits = c.self.inside.valid in
    let seen = ap (λ rows. is_some (get_or rows c.args.slot None)) c.self.view_is ∙ c.requires in
    let count = one_less bits c.args.slot (is_set bits c.self.inside.rowids c.args.slot c.self.invariant.0 seen) in
    let size = ap length c.clear.ensures ∙ length-set bits c.args.slot false in
    let now = ap (count_by (λ bit. bit)) c.clear.ensures in
    (omega (arith, size, c.self.invariant.0), omega (arith, count, now, c.self.invariant.1), omega (arith, size, c.self.invariant.2))

pub returns : goal.returns
returns c =
    ap (λ bits. rows_of bits c.self.inside.rowids) c.clear.ensures
    ∙ row_dropped c.self.inside.valid c.self.inside.rowids c.args.slot c.self.invariant.0
    ∙ ap (λ rows. set rows c.args.slot None) c.self.view_is
