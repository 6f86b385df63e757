-- Tables under their numbers.
use Rattle.std.proofs.Common.{◌≡◌, ℕ, suc, ◌+◌, ◌-◌, ◌<◌, Bool, true, false, not, ◌||◌, List, [], ◌∷◌, length, Option, Some, None, is_some, refl, sym, ap, ◌∙◌, subst, arith, add-one, nat_lt, bytes_eq}
use Rattle.std.specs.Prelude.{◌==◌}
use Rattle.std.proofs.lemmas.Bool.{and_parts, eq-eqb, ne_eqb, false≢true}
use Rattle.std.proofs.lemmas.Slice.Eq.{bytes_eq-Decides}
use Rattle.row_model.specs.declared.row.Named.{Named}
use Rattle.row_model.specs.Change.{add_table, free_number, other_tables, table_named}
use Rattle.row_model.specs.Valid.{has_table, have_own_names}
use Rattle.table_version.specs.Versions.{VersionState}
use Rattle.version_shelf.specs.Numbers.{is_named_in, named_as, numbered, IsFree, IsFreeFrom, IsNumber, IsNumberFrom}
use Rattle.shadow_records.specs.PlacedTables.{plain}

negated : (b : Bool) → not b ≡ true → b ≡ false
negated true h = absurd cc
negated false h = refl

neither : (a b : Bool) → (a || b) ≡ false → (a ≡ false) × (b ≡ false)
neither true b h = absurd cc
neither false b h = (refl, h)

others_stay : (name : List ℕ) (tables : List Named) → has_table name tables ≡ false → other_tables name tables ≡ tables
others_stay name [] h = refl
others_stay name (n ∷ ns) h =
    let parts = neither (bytes_eq n.name name) (has_table name ns) h in
    rw parts.0 (ap (λ z. n ∷ z) (others_stay name ns parts.1))

-- ---- by name

pub number_first : (base : ℕ) (name : List ℕ) (o : Option VersionState) (os : List (Option VersionState)) → is_named_in name o ≡ true → IsNumberFrom base name (o ∷ os) 0
number_first base name None os h = absurd (false≢true h)
number_first base name (Some v) os h = record {
  version = v;
  within = omega arith;
  there = refl;
  named = h;
  found = named_as base v;
  is = rw h refl;
  same = refl;
  put = λ new same. rw h (ap (λ n. record { number = base; name = n; table = plain new.table } ∷ numbered (suc base) os) (sym same));
  gone = λ own. (
      let same : v.table.name ≡ name = (bytes_eq-Decides v.table.name name).0 h in
      rw h (others_stay name (numbered (suc base) os) (ap (λ z. has_table z (numbered (suc base) os)) (sym same) ∙ negated (has_table v.table.name (numbered (suc base) os)) (and_parts (not (has_table v.table.name (numbered (suc base) os))) (have_own_names (numbered (suc base) os)) own).0)));
}

number_next : (base : ℕ) (name : List ℕ) (o : Option VersionState) (os : List (Option VersionState)) (at : ℕ) → is_named_in name o ≡ false → IsNumberFrom (suc base) name os at → IsNumberFrom base name (o ∷ os) (suc at)
number_next base name None os at h a = record {
  version = a.version;
  within = let lt : at < length os = a.within in omega arith;
  there = a.there;
  named = a.named;
  found = a.found;
  is = a.is;
  same = a.same;
  put = a.put;
  gone = a.gone;
}
number_next base name (Some v) os at h a = record {
  version = a.version;
  within = let lt : at < length os = a.within in omega arith;
  there = a.there;
  named = a.named;
  found = a.found;
  is = rw h a.is;
  same = a.same;
  put = λ new same. rw h (ap (λ z. named_as base v ∷ z) (a.put new same));
  gone = λ own. rw h (ap (λ z. named_as base v ∷ z) (a.gone (and_parts (not (has_table v.table.name (numbered (suc base) os))) (have_own_names (numbered (suc base) os)) own).1));
}

pub number_later : (base : ℕ) (name : List ℕ) (o : Option VersionState) (os : List (Option VersionState)) (at : ℕ) → is_named_in name o ≡ false → ((b : ℕ) → IsNumberFrom b name os at) → IsNumberFrom base name (o ∷ os) (at + 1)
number_later base name o os at h a = subst (λ n. IsNumberFrom base name (o ∷ os) n) (sym (add-one at)) (number_next base name o os at h (a (suc base)))

pub number_none : (base : ℕ) (name : List ℕ) (o : Option VersionState) (os : List (Option VersionState)) → is_named_in name o ≡ false → ((b : ℕ) → table_named name (numbered b os) ≡ None) → table_named name (numbered base (o ∷ os)) ≡ None
number_none base name None os h a = a (suc base)
number_none base name (Some v) os h a = rw h (a (suc base))

-- ---- the least free number

free-above : (n m : ℕ) (os : List (Option VersionState)) → n < m → free_number n (numbered m os) ≡ n
free-above n m [] lt = refl
free-above n m (None ∷ os) lt = free-above n (suc m) os (omega (arith, lt))
free-above n m (Some v ∷ os) lt = (let other : (m == n) ≡ false = ne_eqb m n (λ e. absurd (omega (arith, e, lt))) in rw other refl)

add-above : (n m : ℕ) (new : VersionState) (os : List (Option VersionState)) → n < m → add_table (named_as n new) (numbered m os) ≡ named_as n new ∷ numbered m os
add-above n m new [] lt = refl
add-above n m new (None ∷ os) lt = add-above n (suc m) new os (omega (arith, lt))
add-above n m new (Some v ∷ os) lt = (let below : nat_lt n m ≡ true = grind (arith, lt) in rw below refl)

pub free_first : (base : ℕ) (o : Option VersionState) (os : List (Option VersionState)) → is_some o ≡ false → IsFreeFrom base (o ∷ os) 0
free_first base (Some v) os h = absurd (false≢true (sym h))
free_first base None os h = record {
  within = omega arith;
  is = free-above base (suc base) os (omega arith) ∙ omega arith;
  put = λ new. (let e : base + 0 ≡ base = omega arith in rw e (add-above base (suc base) new os (omega arith)));
}

free_next : (base : ℕ) (o : Option VersionState) (os : List (Option VersionState)) (at : ℕ) → is_some o ≡ true → IsFreeFrom (suc base) os at → IsFreeFrom base (o ∷ os) (suc at)
free_next base None os at some a = absurd (false≢true some)
free_next base (Some v) os at some a =
    let same : (base == base) ≡ true = eq-eqb base base refl in
    let e : suc base + at ≡ base + suc at = omega arith in
    record {
      within = let lt : at < length os = a.within in omega arith;
      is = rw (same, add-one base) (a.is ∙ e);
      put = λ new. (
          let above : nat_lt (base + suc at) base ≡ false = grind arith in
          rw above (ap (λ z. named_as base v ∷ z) (ap (λ n. add_table (named_as n new) (numbered (suc base) os)) (sym e) ∙ a.put new)));
    }

pub free_later : (base : ℕ) (o : Option VersionState) (os : List (Option VersionState)) (at : ℕ) → is_some o ≡ true → ((b : ℕ) → IsFreeFrom b os at) → IsFreeFrom base (o ∷ os) (at + 1)
free_later base o os at some a = subst (λ n. IsFreeFrom base (o ∷ os) n) (sym (add-one at)) (free_next base o os at some (a (suc base)))

pub count_more : (base : ℕ) (o : Option VersionState) (os : List (Option VersionState)) → is_some o ≡ true → length (numbered base (o ∷ os)) ≡ length (numbered (suc base) os) + 1
count_more base None os some = absurd (false≢true some)
count_more base (Some v) os some = sym (add-one (length (numbered (suc base) os)))

pub count_less : (base : ℕ) (o : Option VersionState) (os : List (Option VersionState)) → is_some o ≡ false → length (numbered base (o ∷ os)) ≡ length (numbered (suc base) os)
count_less base None os none = refl
count_less base (Some v) os none = absurd (false≢true (sym none))

-- ---- numbers from 1

pub number-at : (name : List ℕ) (os : List (Option VersionState)) (at : ℕ) → IsNumberFrom 1 name os at → IsNumber name os (at + 1)
number-at name os at a = record {
  low = omega arith;
  high = (let lt : at < length os = a.within in omega arith);
  from = (let e : at + 1 - 1 ≡ at = omega arith in subst (λ n. IsNumberFrom 1 name os n) (sym e) a);
}

pub free-at : (os : List (Option VersionState)) (at : ℕ) → IsFreeFrom 1 os at → IsFree os (at + 1)
free-at os at a =
    let e : at + 1 - 1 ≡ at = omega arith in
    let f : at + 1 ≡ 1 + at = omega arith in
    record {
      low = omega arith;
      high = (let lt : at < length os = a.within in omega arith);
      is = a.is ∙ sym f;
      put = λ new. rw (e, f) (a.put new);
    }
