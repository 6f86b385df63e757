-- Hits are in a strict order, in which hits with different rowids have each their own place.
use Rattle.std.proofs.Common.{◌≡◌, ℕ, ℤ, true, false, cond, List, [], ◌∷◌, ◌++◌, take, refl, sym, ap, ap₂, ◌∙◌, inl, inr, Less, Equal, Greater}
use Rattle.std.specs.Prelude.{int_lt}
use Rattle.std.specs.Cmp.{IsTotalOrder, IsStrictWeakOrder}
use Rattle.std.specs.List.{IsDistinct}
use Rattle.std.specs.List.Sorted.{IsPermutation}
use Rattle.std.specs.Ordering.{is_lt, nat_cmp, int_cmp, int_eq, ordering_then, ordering_reverse}
use Rattle.std.specs.declared.cmp.Ordering.{Ordering}
use Rattle.std.proofs.lemmas.Bool.{cases_Bool, false≢true}
use Rattle.std.proofs.lemmas.Cmp.{ranked, int_ranked, tied_itself, nat_cmp_total, int_cmp_total, int_eq_equiv, on_total, then_total}
use Rattle.std.proofs.lemmas.List.Sorted.{ranks_by}
use Rattle.vec_base.specs.Ranks.{all_placed, first_ranked}
use Rattle.vec_base.specs.inner.Offers.{offered}
use Rattle.vec_base.specs.inner.StrictOrders.{IsStrictOrder, AreRanked, AllRanked, IsInOrder}
use Rattle.vec_base.proofs.RankLaws.{each-map, offered_ranked}
use Rattle.topk_merge.specs.declared.hit.Hit.{Hit}
use Rattle.topk_merge.specs.Hits.{hit_cmp, is_before}
use Rattle.topk_merge.proofs.OrderLaws.{offered-permuted, offered-merged}

-- hits are compared by distance, then by rowid, and both are total
pub hit_total : IsTotalOrder hit_cmp
hit_total = then_total (on_total (λ (hit : Hit). hit.distance) nat_cmp_total) (on_total (λ (hit : Hit). hit.rowid) int_cmp_total)

-- what a search in a sorted list asks
pub hit_weak : IsStrictWeakOrder is_before
hit_weak = ranks_by hit_total (λ (hit : Hit). hit)

-- what is its own reverse is not less
not_less : (o : Ordering) → o ≡ ordering_reverse o → is_lt o ≡ false
not_less Less same = cc
not_less Equal same = refl
not_less Greater same = refl

-- the two answers differ
less≢equal : Less ≡ Equal → ⊥
less≢equal same = false≢true (ap is_lt (sym same))

-- the one answer that is less
less_from : (o : Ordering) → is_lt o ≡ true → o ≡ Less
less_from Less lt = refl
less_from Equal lt = cc
less_from Greater lt = cc

-- no rowid is below itself
int_not_below_itself : (n : ℤ) → int_lt n n ≡ false
int_not_below_itself n =
    elim (cases_Bool (int_lt n n)) [
      | inl below ↦ absurd (less≢equal (sym (ap (λ b. cond b Less (cond (int_lt n n) Greater Equal)) below) ∙ tied_itself int_cmp_total n))
      | inr above ↦ above
    ]

-- the premise of the laws of rank on the test
pub hit_order : IsStrictOrder is_before
hit_order = record {
  apart = λ x. not_less (hit_cmp x x) (hit_total.antisymm x x);
  chain = λ x y z first next. ap is_lt (hit_total.trans x y z (less_from (hit_cmp x y) first) (less_from (hit_cmp y z) next));
}

-- ---- hits that differ in their rowids

-- two parts compare as equal only where each does
both_equal : (o p : Ordering) → ordering_then o p ≡ Equal → (o ≡ Equal) × (p ≡ Equal)
both_equal Less p same = cc
both_equal Equal p same = (refl, same)
both_equal Greater p same = cc

-- what is less neither way round is equal
equal_from : (o : Ordering) → is_lt o ≡ false → is_lt (ordering_reverse o) ≡ false → o ≡ Equal
equal_from Less not_less not_greater = cc
equal_from Equal not_less not_greater = refl
equal_from Greater not_less not_greater = cc

-- where neither is before the other they compare as equal
tied : (a b : Hit) → is_before a b ≡ false → is_before b a ≡ false → hit_cmp a b ≡ Equal
tied a b not_before not_after = equal_from (hit_cmp a b) not_before (ap is_lt (sym (hit_total.antisymm b a)) ∙ not_after)

-- hits that compare as equal have one rowid
same_rowid : (a b : Hit) → hit_cmp a b ≡ Equal → a.rowid ≡ b.rowid
same_rowid a b same = int_ranked a.rowid b.rowid Equal (sym (both_equal (nat_cmp a.distance b.distance) (int_cmp a.rowid b.rowid) same).1)

-- hits of which neither is before the other are one
pub same_hit : (a b : Hit) → is_before a b ≡ false → is_before b a ≡ false → a ≡ b
same_hit a b not_before not_after =
    let same = tied a b not_before not_after in
    let distances : a.distance ≡ b.distance = ranked a.distance b.distance Equal (sym (both_equal (nat_cmp a.distance b.distance) (int_cmp a.rowid b.rowid) same).0) in
    let hit : ℕ → ℤ → Hit = λ d r. record { distance = d; rowid = r } in
    ap₂ hit distances (same_rowid a b same)

-- hits with different rowids: one is before the other
pub rowids_ranked : (a b : Hit) → (a.rowid ≡ b.rowid → ⊥) → AreRanked is_before a b
rowids_ranked a b differ not_before =
    elim (cases_Bool (is_before b a)) [
      | inl after ↦ after
      | inr not_after ↦ absurd (differ (same_rowid a b (tied a b not_before not_after)))
    ]

-- the premise of the laws of rank, where no rowid stands twice
pub distinct_ranked : (hits : List Hit) → IsDistinct (λ a b. int_eq a.rowid b.rowid) hits → AllRanked is_before hits
unfolding IsDistinct
distinct_ranked [] distinct = tt
distinct_ranked (hit ∷ hits) distinct = (
  each-map (λ b. int_eq hit.rowid b.rowid ≡ false) (AreRanked is_before hit)
      (λ b differ. rowids_ranked hit b (λ same. false≢true (sym differ ∙ ap (int_eq hit.rowid) (sym same) ∙ int_eq_equiv.refl hit.rowid)))
      hits distinct.0,
  distinct_ranked hits distinct.1,
)

-- the same premise, where the rowids rise
pub rising_ranked : (hits : List Hit) → IsInOrder (λ a b. int_lt a.rowid b.rowid) hits → AllRanked is_before hits
rising_ranked [] rise = tt
rising_ranked (hit ∷ hits) rise = (
  each-map (λ b. int_lt hit.rowid b.rowid ≡ true) (AreRanked is_before hit)
      (λ b below. rowids_ranked hit b (λ same. false≢true (sym (int_not_below_itself hit.rowid) ∙ ap (int_lt hit.rowid) same ∙ below)))
      hits rise.0,
  rising_ranked hits rise.1,
)

-- what is left of offers of hits
pub offered_hits : (k : ℕ) (hits : List Hit) → AllRanked is_before hits → offered is_before k [] hits ≡ first_ranked is_before k hits
offered_hits k hits ranked = offered_ranked is_before hit_order k hits ranked

-- what offers of hits leave does not depend on their order
pub permuted_hits : (k : ℕ) (xs ys : List Hit) → IsPermutation xs ys → offered is_before k [] xs ≡ offered is_before k [] ys
permuted_hits = offered-permuted is_before hit_order same_hit

-- what two lists that offers of hits left give together
pub merged_hits : (k : ℕ) (xs ys : List Hit) → take k (all_placed is_before (offered is_before k [] xs) (offered is_before k [] ys)) ≡ offered is_before k [] (xs ++ ys)
merged_hits = offered-merged is_before hit_order same_hit
