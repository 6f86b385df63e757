use Rattle.std.proofs.Common.{◌≡◌, ◌<◌, length, Less, sym, ◌∙◌, ⊎_elim, inl, inr, arith}
use Rattle.std.proofs.lemmas.List.{get_or_default}
use Rattle.std.proofs.lemmas.List.Quantifiers.{all_pairs_remove}
use Rattle.slot_alloc.specs.inner.Kept.{spare_cmp}
use Rattle.slot_alloc.proofs.ListLaws.{contains-remove}
use Rattle.slot_alloc.proofs.SpareLaws.{entry, before_split, equal_from, same_spare}
use Rattle.slot_alloc.proofs.spare.SpareIndex.take_out.Goals as goal

pub front_len-at-requires : goal.front_len-at-requires
front_len-at-requires c = before_split c.self.inside.entries (entry c.args.partition.now c.args.number) c.self.invariant

pub invariant_of-self-then-is_eq : goal.invariant_of-self-then-is_eq
invariant_of-self-then-is_eq c =
    let within : c.front_len-at.result < length c.self.inside.entries = omega (arith, c.if-at-len.true, c.len.ensures) in
    rw (c.in_ok-remove.ensures {u = tt}) (all_pairs_remove (λ x y. spare_cmp x y ≡ Less) c.self.inside.entries c.front_len-at.result within c.self.invariant)

pub returns-in_ok-remove : goal.returns-in_ok-remove
returns-in_ok-remove c =
    let es = c.self.inside.entries in
    let at = c.front_len-at.result in
    let within : at < length es = omega (arith, c.if-at-len.true, c.len.ensures) in
    let same = same_spare c.get.result.now (entry c.args.partition.now c.args.number) (sym c.order.ensures ∙ equal_from c.order.result (sym c.is_eq.ensures ∙ c.if-is_eq.true)) in
    rw (c.in_ok-remove.ensures {u = tt}, ← c.self.view_is) (λ e there.
    ⊎_elim
    (λ gone. inl (gone ∙ get_or_default es at e c.get.result.now within ∙ sym c.get.ensures ∙ same))
    (λ still. inr still)
    (contains-remove es at e within there))
