-- Entries in order: the first of some partition values, and what goes in between.
use Rattle.std.proofs.Common.{◌≡◌, ℕ, ◌<◌, ◌≤◌, true, false, List, length, get_or, refl, sym, ap, ◌∙◌, ⊎_elim, Less, Equal, Greater, arith}
use Rattle.std.specs.Cmp.{IsTotalOrder}
use Rattle.std.specs.Cmp.Lexicographic.{slice_cmp}
use Rattle.std.specs.List.{Contains, insert}
use Rattle.std.specs.Ordering.{nat_cmp, is_lt, is_eq, ordering_then, ordering_reverse}
use Rattle.std.specs.declared.cmp.Ordering.{Ordering}
use Rattle.std.proofs.lemmas.Bool.{cases_eq, cases_lt}
use Rattle.std.proofs.lemmas.Cmp.{on_total, then_total, nat_cmp_total, ranked}
use Rattle.std.proofs.lemmas.List.{get_or_default}
use Rattle.vec_base.specs.declared.value.Value.{Value}
use Rattle.slot_alloc.specs.declared.spare.Spare.{Spare}
use Rattle.slot_alloc.specs.inner.Kept.{IsInOrder, spare_cmp}
use Rattle.slot_alloc.specs.inner.Orders.{value_cmp}
use Rattle.slot_alloc.specs.inner.Searches.{IsSplit, IsSplitPlace}
use Rattle.slot_alloc.proofs.ListLaws.{pairs-insert}
use Rattle.slot_alloc.proofs.OrderLaws.{values_total, then_equal, same_number, same_values, equal_itself}

abbrev pub entry : List Value → ℕ → Spare
entry p c = record { partition = p; number = c }

spare_total : IsTotalOrder spare_cmp
spare_total = then_total (on_total (λ e. e.partition) values_total) (on_total (λ e. e.number) nat_cmp_total)

pub same_spare : (e f : Spare) → spare_cmp e f ≡ Equal → e ≡ f
same_spare e f is =
    let parts = then_equal (slice_cmp value_cmp e.partition f.partition) (nat_cmp e.number f.number) is in
    λ i. entry (same_values e.partition f.partition parts.first i) (same_number e.number f.number parts.second i)

less_from : (o : Ordering) → is_lt o ≡ true → o ≡ Less
less_from Less e = refl
less_from Equal e = absurd cc
less_from Greater e = absurd cc

pub equal_from : (o : Ordering) → is_eq o ≡ true → o ≡ Equal
equal_from Less e = absurd cc
equal_from Equal e = refl
equal_from Greater e = absurd cc

greater_from : (o : Ordering) → is_lt o ≡ false → (o ≡ Equal → ⊥) → o ≡ Greater
greater_from Less e other = absurd cc
greater_from Equal e other = absurd (other refl)
greater_from Greater e other = refl

pub before_split : (es : List Spare) (k : Spare) → IsInOrder es → IsSplit (λ _ e. is_lt (spare_cmp e k)) es
before_split es k ordered i j d le lt passes =
    ⊎_elim
    (λ (same : i ≡ j). ap (λ n. is_lt (spare_cmp (get_or es n d) k)) same ∙ passes)
    (λ (other : i ≡ j → ⊥).
    ap is_lt (spare_total.trans (get_or es i d) (get_or es j d) k (ordered i j d (omega (arith, le, other)) lt) (less_from _ passes)))
    (cases_eq i j)

-- ---- the first entry of some partition values

not_below_zero : (p : List Value) (d : ℕ) → is_lt (spare_cmp (entry p d) (entry p 0)) ≡ true → ⊥
not_below_zero p d e =
    let less = less_from (nat_cmp d 0) (sym (ap (λ r. is_lt (ordering_then r (nat_cmp d 0))) (equal_itself p)) ∙ e) in
    let lt : d < 0 = ranked d 0 Less (sym less) in
    absurd (omega (arith, lt))

module _ (es : List Spare) (p : List Value) (at : ℕ) (ordered : IsInOrder es) (place : IsSplitPlace (λ _ e. is_lt (spare_cmp e (entry p 0))) es at) where
  not_before : (d k : ℕ) → get_or es k (entry p d) ≡ entry p d → k < at → ⊥
  not_before d k is lt = not_below_zero p d (ap (λ e. is_lt (spare_cmp e (entry p 0))) (sym is) ∙ place.front k (entry p d) lt)

  pub no_entry_at_end : length es ≤ at → (d : ℕ) → Contains es (entry p d) → ⊥
  no_entry_at_end end d there = not_before d there.0 there.2 (let lt = there.1 in omega (arith, lt, end))

  module _ (e : Spare) (within : at < length es) (is : e ≡ get_or es at e) where
    here : (d : ℕ) → e ≡ get_or es at (entry p d)
    here d = is ∙ get_or_default es at e (entry p d) within

    later : (d : ℕ) (there : Contains es (entry p d)) → at < there.0 → spare_cmp e (entry p d) ≡ Less
    later d there lt = along (here d) there.2 (ordered at there.0 (entry p d) lt there.1)
      where
        along : {f g : Spare} → e ≡ f → g ≡ entry p d → spare_cmp f g ≡ Less → spare_cmp e (entry p d) ≡ Less
        along a b h = (λ i. spare_cmp (a i) (sym b i)) ∙ h

    from_place : (d : ℕ) (G : Type 0) (there : Contains es (entry p d)) → (e ≡ entry p d → G) → (spare_cmp e (entry p d) ≡ Less → G) → G
    from_place d G there same more =
        ⊎_elim
        (λ (low : there.0 < at). absurd (not_before d there.0 there.2 low))
        (λ (high : at ≤ there.0).
        ⊎_elim
        (λ (equal : there.0 ≡ at). same (here d ∙ ap (λ k. get_or es k (entry p d)) (sym equal) ∙ there.2))
        (λ (other : there.0 ≡ at → ⊥). more (later d there (omega (arith, high, other))))
        (cases_eq there.0 at))
        (cases_lt there.0 at)

    none_by : (d : ℕ) (r : Ordering) → slice_cmp value_cmp e.partition p ≡ r → (e.partition ≡ p → ⊥) → is_lt (ordering_then r (nat_cmp e.number 0)) ≡ false → ordering_then r (nat_cmp e.number d) ≡ Less → ⊥
    none_by d Less is other first more = absurd cc
    none_by d Equal is other first more = other (same_values e.partition p is)
    none_by d Greater is other first more = absurd cc

    pub no_entry_of_others : (e.partition ≡ p → ⊥) → (d : ℕ) → Contains es (entry p d) → ⊥
    no_entry_of_others other d there =
        from_place d ⊥ there
        (λ same. other (ap (λ (f : Spare). f.partition) same))
        (λ more. none_by d (slice_cmp value_cmp e.partition p) refl other (ap (λ f. is_lt (spare_cmp f (entry p 0))) is ∙ place.back at e (omega arith) within) more)

    pub first_is_least : e.partition ≡ p → (d : ℕ) → Contains es (entry p d) → e.number ≤ d
    first_is_least same d there =
        from_place d (e.number ≤ d) there
        (λ equal. (let n = ap (λ (f : Spare). f.number) equal in omega (arith, n)))
        (λ more.
        let tied : slice_cmp value_cmp e.partition p ≡ Equal = ap (λ q. slice_cmp value_cmp q p) same ∙ equal_itself p in
        let less : nat_cmp e.number d ≡ Less = sym (ap (λ r. ordering_then r (nat_cmp e.number d)) tied) ∙ more in
        let lt : e.number < d = ranked e.number d Less (sym less) in
        omega (arith, lt))

-- ---- an entry between others

pub in_order-insert : (es : List Spare) (k : Spare) (at : ℕ) → IsInOrder es → IsSplitPlace (λ _ e. is_lt (spare_cmp e k)) es at → ((d : Spare) → at < length es → spare_cmp (get_or es at d) k ≡ Equal → ⊥) → IsInOrder (insert es at k)
in_order-insert es k at ordered place other =
    pairs-insert (λ x y. spare_cmp x y ≡ Less) es at k ordered place.within
    (λ i d lt. less_from _ (place.front i d lt))
    (λ j d le lt.
    let within : at < length es = omega (arith, le, lt) in
    let turned : spare_cmp k (get_or es at d) ≡ Less = spare_total.antisymm k (get_or es at d) ∙ ap ordering_reverse (greater_from _ (place.back at d (omega arith) within) (other d within)) in
    ⊎_elim
    (λ (same : j ≡ at). ap (λ n. spare_cmp k (get_or es n d)) same ∙ turned)
    (λ (more : j ≡ at → ⊥). spare_total.trans k (get_or es at d) (get_or es j d) turned (ordered at j d (omega (arith, le, more)) lt))
    (cases_eq j at))
