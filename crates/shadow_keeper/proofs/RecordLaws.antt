-- Records with rising keys: as a finite map, and among slots.
use Rattle.std.proofs.Common.{◌≡◌, ℕ, ◌+◌, ◌<◌, length, take, drop, get_or, List, [], ◌∷◌, ◌++◌, Bool, true, false, ◌&&◌, cond, T, Option, Some, None, refl, sym, ap, ◌∙◌, subst, append_assoc}
use Rattle.std.proofs.lemmas.List.{take_more, take-append-drop}
use Rattle.std.specs.Cmp.{eq_by_cmp_equiv}
use Rattle.std.specs.FinMap.{insert, find, is_sorted, entries, from_sorted, entries-from_sorted, get-from_sorted, from_entries_push, same_map}
use Rattle.std.specs.FinMap.Entries.{below_all}
use Rattle.std.specs.List.{AllByRecursion}
use Rattle.std.specs.List.Sorted.{IsStrictlySortedBy}
use Rattle.std.specs.Map.{keys_of}
use Rattle.std.specs.Ordering.{is_lt, is_eq}
use Rattle.std.specs.declared.cmp.Ordering.{Ordering}
use Rattle.std.specs.declared.cmp.Ordering.TheVariants.{Less, Equal, Greater}
use Rattle.vec_base.specs.declared.shadow.ShadowKey.{ShadowKey}
use Rattle.shadow_records.specs.Keys.{Tables, key_cmp, is_key}
use Rattle.shadow_records.proofs.KeyLaws.{key_total, key_same, key_is}
use Rattle.shadow_keeper.specs.Keeping.{tables_of}
use Rattle.shadow_keeper.specs.inner.Slots.{tables_in, slot_of, records_in}
use Rattle.shadow_keeper.proofs.SlotLaws.{body_in, get-tables_in}

both_true : (a b : Bool) → (a && b) ≡ true → (a ≡ true) × (b ≡ true)
both_true true b e = (refl, e)
both_true false b e = absurd cc

true_both : (a b : Bool) → a ≡ true → b ≡ true → (a && b) ≡ true
true_both a b e f = ap (λ v. v && b) e ∙ f

is_less : (o : Ordering) → is_lt o ≡ true → o ≡ Less
is_less Less e = refl
is_less Equal e = absurd cc
is_less Greater e = absurd cc

less_is : (o : Ordering) → o ≡ Less → is_lt o ≡ true
less_is o e = ap is_lt e

apart : (x y : ShadowKey) → key_cmp x y ≡ Less → is_key y x ≡ false
apart x y e = (eq_by_cmp_equiv key_total).symm y x ∙ ap is_eq e

-- ---- adding one record behind others

below_last : (x : ShadowKey) (front back : List (ShadowKey × List ℕ)) (key : ShadowKey) (body : List ℕ) → below_all key_cmp x (front ++ (key, body) ∷ back) ≡ true → key_cmp x key ≡ Less
below_last x [] back key body e = is_less (key_cmp x key) (both_true _ _ e).0
below_last x (entry ∷ front) back key body e = below_last x front back key body (both_true _ _ e).1

new_key : (front back : List (ShadowKey × List ℕ)) (key : ShadowKey) (body : List ℕ) → is_sorted key_cmp (front ++ (key, body) ∷ back) ≡ true → find key_cmp key front ≡ None
new_key [] back key body e = refl
new_key (entry ∷ front) back key body e =
    let parts = both_true _ _ e in
    ap (λ b. cond b (Some entry.1) (find key_cmp key front)) (apart entry.0 key (below_last entry.0 front back key body parts.0))
    ∙ new_key front back key body parts.1

split_at : (records : List (ShadowKey × List ℕ)) (i : ℕ) (entry : ShadowKey × List ℕ) → i < length records → entry ≡ get_or records i entry → records ≡ take i records ++ entry ∷ drop (i + 1) records
split_at records i entry within at =
    sym (take-append-drop (i + 1) records) ∙ ap (λ front. front ++ drop (i + 1) records) (take_more records i entry within)
    ∙ append_assoc (take i records) (get_or records i entry ∷ []) (drop (i + 1) records)
    ∙ ap (λ r. take i records ++ r ∷ drop (i + 1) records) (sym at)

pub record_added : (records : List (ShadowKey × List ℕ)) (i : ℕ) (entry : ShadowKey × List ℕ) (body : List ℕ) (old new : Tables)
    → is_sorted key_cmp records ≡ true → i < length records → entry ≡ get_or records i entry → body ≡ entry.1
    → old ≡ tables_of (take i records) → new ≡ insert old entry.0 body → new ≡ tables_of (take (i + 1) records)
record_added records i entry body old new rising within at same before made =
    let front = take i records in
    let none : find key_cmp entry.0 front ≡ None = new_key front (drop (i + 1) records) entry.0 entry.1 (sym (ap (is_sorted key_cmp) (split_at records i entry within at)) ∙ rising) in
    made ∙ ap (λ t. insert t entry.0 body) before ∙ ap (insert (tables_of front) entry.0) same
    ∙ sym (from_entries_push key_total key_same front entry.0 entry.1 none)
    ∙ ap (λ r. tables_of (front ++ r ∷ [])) at ∙ ap tables_of (sym (take_more records i entry within))

-- ---- the records among slots

below_records : (x : ShadowKey) (slots : List (ShadowKey × Option (List ℕ))) → AllByRecursion (λ y. key_cmp x y ≡ Less) (keys_of slots) → below_all key_cmp x (records_in slots) ≡ true
below_records x [] below = refl
below_records x ((key, None) ∷ slots) below = below_records x slots below.1
below_records x ((key, Some body) ∷ slots) below = true_both _ _ (less_is _ below.0) (below_records x slots below.1)

sorted_records : (slots : List (ShadowKey × Option (List ℕ))) → IsStrictlySortedBy key_cmp (keys_of slots) → is_sorted key_cmp (records_in slots) ≡ true
unfolding IsStrictlySortedBy
sorted_records [] sorted = refl
sorted_records ((key, None) ∷ slots) sorted = sorted_records slots sorted.1
sorted_records ((key, Some body) ∷ slots) sorted = true_both _ _ (below_records key slots sorted.0) (sorted_records slots sorted.1)

no_slot : (x : ShadowKey) (slots : List (ShadowKey × Option (List ℕ))) → AllByRecursion (λ y. key_cmp x y ≡ Less) (keys_of slots) → slot_of slots x ≡ None
no_slot x [] below = refl
no_slot x (slot ∷ slots) below = ap (λ o. cond (is_eq o) (Some slot.1) (slot_of slots x)) below.0 ∙ no_slot x slots below.1

find-records : (q : ShadowKey) (slots : List (ShadowKey × Option (List ℕ))) → IsStrictlySortedBy key_cmp (keys_of slots) → find key_cmp q (records_in slots) ≡ body_in (slot_of slots q)
unfolding IsStrictlySortedBy
find-records q [] sorted = refl
find-records q ((key, None) ∷ slots) sorted = find-records q slots sorted.1 ∙ at (is_key q key) refl where
  at : (b : Bool) → is_key q key ≡ b → body_in (slot_of slots q) ≡ body_in (cond b (Some None) (slot_of slots q))
  at true e = ap body_in (ap (slot_of slots) (key_is q key e) ∙ no_slot key slots sorted.0)
  at false e = refl
find-records q ((key, Some body) ∷ slots) sorted = at (find-records q slots sorted.1) (is_key q key) where
  at : find key_cmp q (records_in slots) ≡ body_in (slot_of slots q) → (b : Bool) → cond b (Some body) (find key_cmp q (records_in slots)) ≡ body_in (cond b (Some (Some body)) (slot_of slots q))
  at rest true = refl
  at rest false = rest

pub records-entries : (slots : List (ShadowKey × Option (List ℕ))) → IsStrictlySortedBy key_cmp (keys_of slots) → records_in slots ≡ entries (tables_in slots)
records-entries slots sorted =
    let rising : T (is_sorted key_cmp (records_in slots)) = subst T (sym (sorted_records slots sorted)) tt in
    sym (entries-from_sorted key_cmp (records_in slots) rising)
    ∙ ap entries (same_map key_total key_same (from_sorted (records_in slots)) (tables_in slots) (λ q.
    get-from_sorted key_cmp (records_in slots) q rising ∙ find-records q slots sorted ∙ sym (get-tables_in slots q)))
