-- Records with rising keys that fall into groups by their table numbers.
use Rattle.std.proofs.Common.{◌≡◌, ℕ, ◌+◌, ◌<◌, ◌≤◌, Bool, true, false, cond, List, [], ◌∷◌, ◌++◌, get_or, length, take, refl, sym, ap, ◌∙◌, subst, arith, Option, Some, None}
use Rattle.std.specs.FinMap.{is_sorted}
use Rattle.std.specs.FinMap.Entries.{below_all}
use Rattle.std.specs.Ordering.{eq_by_cmp, int_cmp, is_lt, nat_cmp, ordering_then}
use Rattle.std.specs.declared.cmp.Ordering.{Ordering}
use Rattle.std.specs.declared.cmp.Ordering.TheVariants.{Less, Equal, Greater}
use Rattle.std.proofs.lemmas.Bool.{and_parts}
use Rattle.std.proofs.lemmas.List.{take_more}
use Rattle.record_bodies.specs.ReadRows.{body_among}
use Rattle.shadow_records.specs.Keys.{key_cmp}
use Rattle.table_attach.specs.Attaching.{Records}
use Rattle.table_attach.proofs.KeyFacts.{found-among}
use Rattle.vec_base.specs.declared.shadow.ShadowKey.{ShadowKey}
use Rattle.shelf_attach.specs.inner.Grouping.{AllUnder, BeginsElsewhere, IsBefore}

-- ---- what is found

-- what is found has a table number that is among the records
pub found_under : (Meets : ℕ → Type 0) (records : Records) (key : ShadowKey) (body : List ℕ) → AllUnder Meets records → body_among records key ≡ Some body → Meets key.table
found_under Meets records key body all is = found-among (λ (r : ShadowKey × List ℕ). Meets r.0.table) records key body all is

pub not_under : (records : Records) (key : ShadowKey) → AllUnder (λ number. number ≡ key.table → ⊥) records → body_among records key ≡ None
not_under records key all = at (body_among records key) refl where
  at : (o : Option (List ℕ)) → body_among records key ≡ o → o ≡ None
  at None is = refl
  at (Some body) is = absurd (found_under (λ number. number ≡ key.table → ⊥) records key body all is refl)

pub behind_none : (front rest : Records) (key : ShadowKey) → body_among front key ≡ None → body_among (front ++ rest) key ≡ body_among rest key
behind_none [] rest key none = refl
behind_none (r ∷ front) rest key none = at (eq_by_cmp key_cmp key r.0) none (behind_none front rest key) where
  at : (b : Bool) → cond b (Some r.1) (body_among front key) ≡ None → (body_among front key ≡ None → body_among (front ++ rest) key ≡ body_among rest key) →
      cond b (Some r.1) (body_among (front ++ rest) key) ≡ body_among rest key
  at true none more = absurd cc
  at false none more = more none

pub none_behind : (front rest : Records) (key : ShadowKey) → body_among rest key ≡ None → body_among (front ++ rest) key ≡ body_among front key
none_behind [] rest key none = none
none_behind (r ∷ front) rest key none = ap (λ o. cond (eq_by_cmp key_cmp key r.0) (Some r.1) o) (none_behind front rest key none)

-- ---- tests of all records

pub all_weaker : (Meets Also : ℕ → Type 0) (records : Records) → ((number : ℕ) → Meets number → Also number) → AllUnder Meets records → AllUnder Also records
all_weaker Meets Also [] weaker all = tt
all_weaker Meets Also (r ∷ records) weaker all = (weaker r.0.table all.0, all_weaker Meets Also records weaker all.1)

pub all_append : (Meets : ℕ → Type 0) (front rest : Records) → AllUnder Meets front → AllUnder Meets rest → AllUnder Meets (front ++ rest)
all_append Meets [] rest one other = other
all_append Meets (r ∷ front) rest one other = (one.0, all_append Meets front rest one.1 other)

-- ---- rising keys

pub sorted_behind : (front rest : Records) → is_sorted key_cmp (front ++ rest) ≡ true → is_sorted key_cmp rest ≡ true
sorted_behind [] rest rise = rise
sorted_behind (r ∷ front) rest rise = sorted_behind front rest (and_parts (below_all key_cmp r.0 (front ++ rest)) (is_sorted key_cmp (front ++ rest)) rise).1

below_front : (key : ShadowKey) (front rest : Records) → below_all key_cmp key (front ++ rest) ≡ true → (below_all key_cmp key front ≡ true) × (below_all key_cmp key rest ≡ true)
below_front key [] rest below = (refl, below)
below_front key (r ∷ front) rest below =
    let parts = and_parts (is_lt (key_cmp key r.0)) (below_all key_cmp key (front ++ rest)) below in
    let more = below_front key front rest parts.1 in
    (rw (parts.0, more.0) refl, more.1)

pub sorted_front : (front rest : Records) → is_sorted key_cmp (front ++ rest) ≡ true → is_sorted key_cmp front ≡ true
sorted_front [] rest rise = refl
sorted_front (r ∷ front) rest rise =
    let parts = and_parts (below_all key_cmp r.0 (front ++ rest)) (is_sorted key_cmp (front ++ rest)) rise in
    rw ((below_front r.0 front rest parts.0).0, sorted_front front rest parts.1) refl

-- a key that is above another has no lesser table number
table_rises : (x y : ShadowKey) → is_lt (key_cmp x y) ≡ true → x.table ≤ y.table
table_rises x y less = at (nat_cmp x.table y.table) refl less where
  at : (o : Ordering) → nat_cmp x.table y.table ≡ o →
      is_lt (ordering_then o (ordering_then (nat_cmp x.kind y.kind) (ordering_then (int_cmp x.a y.a) (int_cmp x.b y.b)))) ≡ true → x.table ≤ y.table
  at Less is less = lower x.table y.table is where
    lower : (a b : ℕ) → nat_cmp a b ≡ Less → a ≤ b
    lower a b is = grind arith
  at Equal is less = same x.table y.table is where
    same : (a b : ℕ) → nat_cmp a b ≡ Equal → a ≤ b
    same a b is = grind arith
  at Greater is less = absurd cc

pub none_below : (key : ShadowKey) (records : Records) → below_all key_cmp key records ≡ true → AllUnder (λ number. key.table ≤ number) records
none_below key [] below = tt
none_below key (r ∷ records) below =
    let parts = and_parts (is_lt (key_cmp key r.0)) (below_all key_cmp key records) below in
    (table_rises key r.0 parts.0, none_below key records parts.1)

-- behind a group come greater table numbers
pub group_behind : (number : ℕ) (first : ShadowKey × List ℕ) (group rest : Records) → first.0.table ≡ number → is_sorted key_cmp ((first ∷ group) ++ rest) ≡ true → BeginsElsewhere number rest →
    AllUnder (λ other. number < other) rest
group_behind number first group [] own rise elsewhere = tt
group_behind number first group (r ∷ rest) own rise elsewhere =
    let parts = and_parts (below_all key_cmp first.0 (group ++ r ∷ rest)) (is_sorted key_cmp (group ++ r ∷ rest)) rise in
    let least = (none_below first.0 (r ∷ rest) (below_front first.0 group (r ∷ rest) parts.0).1).0 in
    let above : number < r.0.table = omega (arith, least, own, elsewhere) in
    let later = and_parts (below_all key_cmp r.0 rest) (is_sorted key_cmp rest) (sorted_behind group (r ∷ rest) parts.1) in
    (above, all_weaker (λ other. r.0.table ≤ other) (λ other. number < other) rest (λ other least. omega (arith, above, least)) (none_below r.0 rest later.0))

-- the records in front stand before those behind a group too
pub before_more : (number : ℕ) (front group rest : Records) → AllUnder (λ other. other < number) front → AllUnder (λ other. other ≡ number) group → AllUnder (λ other. number < other) rest → IsBefore (front ++ group) rest
before_more number front group [] less own above = tt
before_more number front group (r ∷ rest) less own above =
    all_append (λ other. other < r.0.table) front group
    (all_weaker (λ other. other < number) (λ other. other < r.0.table) front (λ other below. omega (arith, below, above.0)) less)
    (all_weaker (λ other. other ≡ number) (λ other. other < r.0.table) group (λ other same. omega (arith, same, above.0)) own)

-- one record more
pub all_more : (Meets : ℕ → Type 0) (records : Records) (at : ℕ) (r : ShadowKey × List ℕ) → at < length records → get_or records at r ≡ r → AllUnder Meets (take at records) → Meets r.0.table → AllUnder Meets (take (at + 1) records)
all_more Meets records at r within is all one =
    subst (AllUnder Meets) (sym (take_more records at r within ∙ ap (λ last. take at records ++ last ∷ []) is)) (all_append Meets (take at records) (r ∷ []) all (one, tt))
