-- The slot rule names one place.
use Rattle.std.proofs.Common.{◌≡◌, ℕ, ◌<◌, List, ⊎_elim, sym, ap, ap₂, ◌∙◌}
use Rattle.std.proofs.lemmas.Bool.{cases_order, false≢true}
use Rattle.vec_base.specs.declared.value.Value.{Value}
use Rattle.slot_alloc.specs.declared.place.Place.{Place}
use Rattle.slot_alloc.specs.declared.place.Place.TheVariants.{Slot, NewChunk}
use Rattle.slot_alloc.specs.Places.{PlaceMap}
use Rattle.slot_alloc.specs.SlotRule.{IsLowestFree, IsLowestNew, IsPlaceFor}

-- a lower one of two is the one
one_number : (m n : ℕ) → (m < n → ⊥) → (n < m → ⊥) → m ≡ n
one_number m n low high = ⊎_elim (λ (same : m ≡ n). same) (λ other. ⊎_elim (λ (lt : m < n). absurd (low lt)) (λ (lt : n < m). absurd (high lt)) other) (cases_order m n)

not_lower_chunk : (places : PlaceMap) (p : List Value) (c s d t : ℕ) → IsLowestFree places p c s → IsLowestFree places p d t → c < d → ⊥
not_lower_chunk places p c s d t a b lt = false≢true (sym a.free ∙ b.lower_chunks c lt a.chunk s a.within)

not_lower_slot : (places : PlaceMap) (p : List Value) (c s t : ℕ) → IsLowestFree places p c s → IsLowestFree places p c t → s < t → ⊥
not_lower_slot places p c s t a b lt = false≢true (sym a.free ∙ b.lower_slots s lt)

one_free : (places : PlaceMap) (p : List Value) (c s d t : ℕ) → IsLowestFree places p c s → IsLowestFree places p d t → Slot c s ≡ Slot d t
one_free places p c s d t a b =
    let chunk : c ≡ d = one_number c d (not_lower_chunk places p c s d t a b) (not_lower_chunk places p d t c s b a) in
    let here : IsLowestFree places p d s = rw (sym chunk) a in
    let slot : s ≡ t = one_number s t (not_lower_slot places p d s t here b) (not_lower_slot places p d t s b here) in
    ap₂ (λ m n. Slot m n) chunk slot

not_lower_new : (places : PlaceMap) (p : List Value) (c d : ℕ) → IsLowestNew places p c → IsLowestNew places p d → c < d → ⊥
not_lower_new places p c d a b lt = false≢true (sym a.unused ∙ b.lower c a.positive lt)

never_both : (places : PlaceMap) (p : List Value) (c s d : ℕ) → IsLowestFree places p c s → IsLowestNew places p d → ⊥
never_both places p c s d a b = false≢true (sym a.free ∙ b.full c a.chunk s a.within)

pub one_place : (places : PlaceMap) (partition : List Value) (a b : Place) → IsPlaceFor places partition a → IsPlaceFor places partition b → a ≡ b
one_place places p (Slot c s) (Slot d t) a b = one_free places p c s d t a b
one_place places p (Slot c s) (NewChunk d) a b = absurd (never_both places p c s d a b)
one_place places p (NewChunk c) (Slot d t) a b = absurd (never_both places p d t c b a)
one_place places p (NewChunk c) (NewChunk d) a b = ap (λ n. NewChunk n) (one_number c d (not_lower_new places p c d a b) (not_lower_new places p d c b a))
