-- Records by rising keys are searched by halves.
use Rattle.std.proofs.Common.{◌≡◌, ℕ, zero, suc, ◌<◌, ◌≤◌, List, [], ◌∷◌, length, get_or, cond, Bool, true, false, refl, sym, ap, ◌∙◌, arith, ◌⊎◌, ⊎_elim, inl, inr}
use Rattle.std.specs.declared.option.Option.TheVariants.{Some, None}
use Rattle.std.specs.declared.cmp.Ordering.{Ordering}
use Rattle.std.specs.declared.cmp.Ordering.TheVariants.{Less, Equal, Greater}
use Rattle.std.specs.Ordering.{ordering_index, ordering_reverse, is_lt, eq_by_cmp}
use Rattle.std.specs.List.Sorted.{IsNonDecreasingBy, IsPartitionPoint}
use Rattle.std.specs.FinMap.{find, is_sorted}
use Rattle.std.specs.FinMap.Entries.{below_all}
use Rattle.std.proofs.lemmas.Bool.{and_parts, false≢true, cases_lt}
use Rattle.vec_base.specs.declared.shadow.ShadowKey.{ShadowKey}
use Rattle.shadow_records.specs.Keys.{key_cmp}
use Rattle.shadow_records.proofs.KeyLaws.{key_total, key_same, key_is, is_key-same, is_key-other}

abbrev Records : Type 0
Records = List (ShadowKey × List ℕ)

is_less : (o : Ordering) → is_lt o ≡ true → o ≡ Less
is_less Less e = refl
is_less Equal e = absurd (false≢true e)
is_less Greater e = absurd (false≢true e)

is_equal : (o : Ordering) → eq_by_cmp (λ (x y : ℕ). o) 0 0 ≡ true → o ≡ Equal
is_equal Less e = absurd (false≢true e)
is_equal Equal e = refl
is_equal Greater e = absurd (false≢true e)

key_equal : (key : ShadowKey) → key_cmp key key ≡ Equal
key_equal key = is_equal (key_cmp key key) (is_key-same key)

index_rises : (a b key : ShadowKey) → key_cmp a b ≡ Less → ordering_index (key_cmp a key) ≤ ordering_index (key_cmp b key)
index_rises a b key e = at (key_cmp a key) refl where
  up : key_cmp key b ≡ Less → ordering_index (key_cmp b key) ≡ 2
  up f = ap ordering_index (key_total.antisymm b key ∙ ap ordering_reverse f)

  at : (o : Ordering) → key_cmp a key ≡ o → ordering_index (key_cmp a key) ≤ ordering_index (key_cmp b key)
  at Less f = (let low : ordering_index (key_cmp a key) ≡ 0 = ap ordering_index f in omega (arith, low))
  at Equal f = (let low : ordering_index (key_cmp a key) ≡ 1 = ap ordering_index f in let high = up (sym (key_total.congr a key b f) ∙ e) in omega (arith, low, high))
  at Greater f = (let low : ordering_index (key_cmp a key) ≡ 2 = ap ordering_index f in let high = up (key_total.trans key a b (key_total.antisymm key a ∙ ap ordering_reverse f) e) in omega (arith, low, high))

below_at : (key : ShadowKey) (records : Records) (j : ℕ) (d : ShadowKey × List ℕ) → below_all key_cmp key records ≡ true → j < length records → key_cmp key (get_or records j d).0 ≡ Less
below_at key [] j d b lt = absurd (omega arith)
below_at key (r ∷ records) zero d b lt = is_less (key_cmp key r.0) (and_parts (is_lt (key_cmp key r.0)) (below_all key_cmp key records) b).0
below_at key (r ∷ records) (suc j) d b lt = below_at key records j d (and_parts (is_lt (key_cmp key r.0)) (below_all key_cmp key records) b).1 (omega arith)

-- sorted records rise against each key
pub rise_against : (key : ShadowKey) (records : Records) → is_sorted key_cmp records ≡ true → IsNonDecreasingBy (λ (y : ShadowKey × List ℕ). ordering_index (key_cmp y.0 key)) records
rise_against key [] s i j d le lt = absurd (omega arith)
rise_against key (r ∷ records) s zero zero d le lt = omega arith
rise_against key (r ∷ records) s zero (suc j) d le lt = index_rises r.0 (get_or records j d).0 key (below_at r.0 records j d (and_parts (below_all key_cmp r.0 records) (is_sorted key_cmp records) s).0 (omega arith))
rise_against key (r ∷ records) s (suc i) zero d le lt = absurd (omega arith)
rise_against key (r ∷ records) s (suc i) (suc j) d le lt = rise_against key records (and_parts (below_all key_cmp r.0 records) (is_sorted key_cmp records) s).1 i j d (omega arith) (omega arith)

-- the record at a place is the one that is found under its key
pub found_own : (records : Records) (k : ℕ) (d : ShadowKey × List ℕ) → is_sorted key_cmp records ≡ true → k < length records → find key_cmp (get_or records k d).0 records ≡ Some (get_or records k d).1
found_own [] k d s lt = absurd (omega arith)
found_own (r ∷ records) zero d s lt = ap (λ b. cond b (Some r.1) (find key_cmp r.0 records)) (is_key-same r.0)
found_own (r ∷ records) (suc k) d s lt =
    let parts = and_parts (below_all key_cmp r.0 records) (is_sorted key_cmp records) s in
    let below = below_at r.0 records k d parts.0 (omega arith) in
    ap (λ b. cond b (Some r.1) (find key_cmp (get_or records k d).0 records)) (is_key-other (get_or records k d).0 r.0 (apart r.0 (get_or records k d).0 below))
    ∙ found_own records k d parts.1 (omega arith) where
      less_equal : Less ≡ Equal → ⊥
      less_equal e = cc

      apart : (a b : ShadowKey) → key_cmp a b ≡ Less → b ≡ a → ⊥
      apart a b below same = less_equal (sym below ∙ ap (key_cmp a) same ∙ key_equal a)

-- the record at a place whose key compares equal
pub found_at : (records : Records) (k : ℕ) (d : ShadowKey × List ℕ) (key : ShadowKey) → is_sorted key_cmp records ≡ true → k < length records → key_cmp (get_or records k d).0 key ≡ Equal →
    Some (get_or records k d).1 ≡ find key_cmp key records
found_at records k d key s lt e = sym (found_own records k d s lt) ∙ ap (λ q. find key_cmp q records) (key_same (get_or records k d).0 key e)

none_found : (key : ShadowKey) (records : Records) → ((k : ℕ) (d : ShadowKey × List ℕ) → k < length records → key_cmp (get_or records k d).0 key ≡ Equal → ⊥) → find key_cmp key records ≡ None
none_found key [] h = refl
none_found key (r ∷ records) h = at (eq_by_cmp key_cmp key r.0) refl (none_found key records (λ k d lt e. h (suc k) d (omega arith) e)) where
  at : (b : Bool) → eq_by_cmp key_cmp key r.0 ≡ b → find key_cmp key records ≡ None → cond b (Some r.1) (find key_cmp key records) ≡ None
  at false f rest = rest
  at true f rest = absurd (h 0 r (omega arith) (ap (λ q. key_cmp r.0 q) (key_is key r.0 f) ∙ key_equal r.0))

-- no record, where the search ends between lesser and greater keys
pub not_found : (key : ShadowKey) (records : Records) (at : ℕ) →
    IsPartitionPoint (λ (y : ShadowKey × List ℕ). key_cmp y.0 key ≡ Less) (λ (y : ShadowKey × List ℕ). key_cmp y.0 key ≡ Greater) records at → None ≡ find key_cmp key records
not_found key records at halves = sym (none_found key records (λ k d lt e. side k d lt e (⊎_elim (λ (below : k < at). inl below) (λ (above : at ≤ k). inr above) (cases_lt k at)))) where
  less_equal : Less ≡ Equal → ⊥
  less_equal e = cc

  greater_equal : Greater ≡ Equal → ⊥
  greater_equal e = cc

  side : (k : ℕ) (d : ShadowKey × List ℕ) → k < length records → key_cmp (get_or records k d).0 key ≡ Equal → (k < at) ⊎ (at ≤ k) → ⊥
  side k d lt e (inl below) = less_equal (sym (halves.0 k d (omega arith) below) ∙ e)
  side k d lt e (inr above) = greater_equal (sym (halves.1 k d above lt) ∙ e)
