use Rattle.std.proofs.Common.{◌<◌, length, get_or, is_eq, ap, sym, ◌∙◌, arith}
use Rattle.std.proofs.lemmas.List.{get_or_default}
use Rattle.std.proofs.lemmas.Bool.{false≢true}
use Rattle.slot_alloc.specs.inner.Kept.{spare_cmp}
use Rattle.slot_alloc.proofs.ListLaws.{contains-insert}
use Rattle.slot_alloc.proofs.SpareLaws.{entry, before_split, equal_from, same_spare, in_order-insert}
use Rattle.slot_alloc.proofs.spare.SpareIndex.add.Goals.{else-at-len-via-then-at-len+else-is_eq, else-at-len-via-else-at-len}
use Rattle.slot_alloc.proofs.spare.SpareIndex.add.Goals as goal

pub front_len-at-requires : goal.front_len-at-requires
front_len-at-requires c = before_split c.self.inside.entries (entry c.values-values.result.now c.args.number) c.self.invariant

pub returns-then-is_eq-clause-added : goal.returns-then-is_eq-clause-added
returns-then-is_eq-clause-added c =
    let es = c.self.inside.entries in
    let at = c.front_len-at.result in
    let within : at < length es = omega (arith, c.if-at-len.true, c.len.ensures) in
    let same = same_spare c.get-then-at-len.result.now (entry c.values-values.result.now c.args.number) (sym c.order.ensures ∙ equal_from c.order.result (sym c.is_eq.ensures ∙ c.if-is_eq.true)) in
    let key = entry c.args.partition c.args.number in
    rw (← c.self.view_is) (at, within, get_or_default es at key c.get-then-at-len.result.now within ∙ sym c.get-then-at-len.ensures ∙ same ∙ ap (λ p. entry p c.args.number) (c.values-values.ensures ∙ c.get.ensures))

pub invariant_of-self-2 : goal.invariant_of-self-2
invariant_of-self-2 c =
    let values = c.values-values.ensures ∙ c.get.ensures in
    let place = rw values at c.front_len-at.ensures in
    rw (c.in_ok-insert.ensures {u = tt})
    (in_order-insert c.self.inside.entries (entry c.args.partition c.args.number) c.front_len-at.result c.self.invariant place
    (λ d lt tied.
    elim c.else-at-len.branch [
      | else-at-len-via-then-at-len+else-is_eq w ↦ false≢true (
          w.if-is_eq.ensures {u = tt}
          ∙ ap is_eq (
          w.order.ensures
          ∙ ap (λ e. spare_cmp e (entry c.values-values.result.now c.args.number)) (w.get-then-at-len.ensures ∙ get_or_default c.self.inside.entries c.front_len-at.result w.get-then-at-len.result.now d lt)
          ∙ ap (λ p. spare_cmp (get_or c.self.inside.entries c.front_len-at.result d) (entry p c.args.number)) values
          ∙ tied))
      | else-at-len-via-else-at-len w ↦ absurd (omega (arith, w.if-at-len.false, c.len.ensures, lt))
    ]))

pub returns-clause-others : goal.returns-clause-others
returns-clause-others c =
    rw (c.in_ok-insert.ensures {u = tt}, ← c.self.view_is) (λ e there. contains-insert c.self.inside.entries c.front_len-at.result e _ c.front_len-at.ensures.within there)
