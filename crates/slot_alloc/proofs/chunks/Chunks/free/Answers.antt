use Rattle.std.proofs.Common.{◌≡◌, false, get_or, ap, sym, ◌∙◌, arith, refl}
use Rattle.std.proofs.lemmas.Option.{get_or_from_slice_get}
use Rattle.std.proofs.lemmas.Bool.{false≢true}
use Rattle.std.proofs.lemmas.List.{get_or_default}
use Rattle.slot_alloc.specs.declared.chunk.Chunk.{Chunk}
use Rattle.slot_alloc.proofs.BitLaws.{inside}
use Rattle.slot_alloc.proofs.ChunkLaws.{found-at}
use Rattle.slot_alloc.proofs.ChangeLaws.{chunks-marked, chunks-removed, uses_no_more-marked, uses_no_more-removed, slot_short, slot_inside, contains-kept, used_is}
use Rattle.slot_alloc.proofs.chunks.Chunks.free.Goals as goal

pub used_beside-requires-clause-short : goal.used_beside-requires-clause-short
used_beside-requires-clause-short c =
    let used = rw (← c.self.view_is) at c.requires in
    let lt = slot_short c.self.inside.size c.self.inside.chunks c.args.number c.args.slot c.self.invariant used in
    let fits = c.self.invariant.fits.2 in
    omega (arith, lt, fits)

pub used_beside-requires-clause-within : goal.used_beside-requires-clause-within
used_beside-requires-clause-within c =
    let used = rw (← c.self.view_is) at c.requires in
    let lt = slot_short c.self.inside.size c.self.inside.chunks c.args.number c.args.slot c.self.invariant used in
    rw c.get-2.ensures (slot_inside c.self.inside.size c.self.inside.chunks c.place_of-at.result c.args.slot c.get.result.now c.self.invariant c.place_of-at.ensures.within c.get.ensures lt)

pub invariant_of-self-in-None : goal.invariant_of-self-in-None
invariant_of-self-in-None c =
    rw (c.in_ok-remove-in-None.ensures {u = tt}) (chunks-removed c.self.inside.size c.self.inside.chunks c.place_of-at.result c.self.invariant c.place_of-at.ensures.within)

pub edit-requires-clause-takes : goal.edit-requires-clause-takes
edit-requires-clause-takes c x is =
    let used = rw (← c.self.view_is) at c.requires in
    let lt = slot_short c.self.inside.size c.self.inside.chunks c.args.number c.args.slot c.self.invariant used in
    slot_inside c.self.inside.size c.self.inside.chunks c.place_of-at.result c.args.slot x c.self.invariant c.place_of-at.ensures.within (sym (get_or_from_slice_get c.self.inside.chunks c.place_of-at.result x x is)) lt

pub invariant_of-self-in-Some : goal.invariant_of-self-in-Some
invariant_of-self-in-Some c =
    let beside = rw c.get-2.ensures at c.in-Some.ensures in
    let x = c.get.result.now in
    rw (c.in_ok-edit-in-Some.ensures {u = tt})
    (chunks-marked c.self.inside.size c.self.inside.chunks c.place_of-at.result c.args.slot false c.self.invariant
    (λ d lt.
    let same : x ≡ get_or c.self.inside.chunks c.place_of-at.result d = c.get.ensures ∙ get_or_default c.self.inside.chunks c.place_of-at.result x d lt in
    rw (sym same) (contains-kept x.used c.args.slot c.in-Some.field-0 (inside x.used c.in-Some.field-0 beside.1) beside.0 beside.1)))

pub returns-in_ok-remove-in-None-clause-freed : goal.returns-in_ok-remove-in-None-clause-freed
returns-in_ok-remove-in-None-clause-freed c =
    let used = rw (← c.self.view_is) at c.requires in
    let lt = slot_short c.self.inside.size c.self.inside.chunks c.args.number c.args.slot c.self.invariant used in
    let only = rw c.get-2.ensures at c.in-None.ensures in
    let number = ap (λ (x : Chunk). x.number) c.get.ensures ∙ c.place_of-at.ensures.number c.get.result.now in
    rw (c.in_ok-remove-in-None.ensures {u = tt}, ← c.self.view_is)
    (uses_no_more-removed c.self.inside.size c.self.inside.chunks c.place_of-at.result c.args.number c.args.slot c.get.result.now c.self.invariant c.place_of-at.ensures.within c.get.ensures number lt only)

pub returns-in_ok-remove-in-None-clause-emptied : goal.returns-in_ok-remove-in-None-clause-emptied
returns-in_ok-remove-in-None-clause-emptied c =
    let only = rw c.get-2.ensures at c.in-None.ensures in
    let is = found-at c.self.inside.chunks c.args.number c.place_of-at.result c.get.result.now c.self.invariant.rise c.place_of-at.ensures.within c.place_of-at.ensures.number c.get.ensures in
    rw (← c.self.view_is) ((λ _ t used. only t (sym (used_is c.self.inside.chunks c.args.number t c.get.result.now is) ∙ used)), λ _. refl)

pub returns-in_ok-edit-in-Some-clause-freed : goal.returns-in_ok-edit-in-Some-clause-freed
returns-in_ok-edit-in-Some-clause-freed c =
    let used = rw (← c.self.view_is) at c.requires in
    let lt = slot_short c.self.inside.size c.self.inside.chunks c.args.number c.args.slot c.self.invariant used in
    let number = ap (λ (x : Chunk). x.number) c.get.ensures ∙ c.place_of-at.ensures.number c.get.result.now in
    rw (c.in_ok-edit-in-Some.ensures {u = tt}, ← c.self.view_is)
    (uses_no_more-marked c.self.inside.size c.self.inside.chunks c.place_of-at.result c.args.number c.args.slot c.get.result.now c.self.invariant c.place_of-at.ensures.within c.get.ensures number lt)

pub returns-in_ok-edit-in-Some-clause-emptied : goal.returns-in_ok-edit-in-Some-clause-emptied
returns-in_ok-edit-in-Some-clause-emptied c =
    let beside = rw c.get-2.ensures at c.in-Some.ensures in
    let is = found-at c.self.inside.chunks c.args.number c.place_of-at.result c.get.result.now c.self.invariant.rise c.place_of-at.ensures.within c.place_of-at.ensures.number c.get.ensures in
    rw (← c.self.view_is) ((λ e. absurd (false≢true e)), λ only. absurd (beside.0 (only c.in-Some.field-0 (used_is c.self.inside.chunks c.args.number c.in-Some.field-0 c.get.result.now is ∙ beside.1))))
