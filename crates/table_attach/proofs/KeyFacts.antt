-- Records by rising keys: each is found under its key.
use Rattle.std.proofs.Common.{◌≡◌, ℕ, ℤ, pos, Bool, true, false, cond, List, [], ◌∷◌, refl, sym, ap, ◌∙◌, arith, Some}
use Rattle.std.specs.Prelude.{◌&&◌, ◌==◌}
use Rattle.std.specs.List.{AllByRecursion}
use Rattle.std.specs.Ordering.{int_eq, is_lt, is_eq, int_cmp, nat_cmp, ordering_then, eq_by_cmp}
use Rattle.std.specs.declared.cmp.Ordering.{Ordering}
use Rattle.std.specs.declared.cmp.Ordering.TheVariants.{Less, Equal, Greater}
use Rattle.std.specs.FinMap.{find, is_sorted, nat_cmp-IsAntisymmetric, int_cmp-IsAntisymmetric}
use Rattle.std.specs.FinMap.Entries.{below_all}
use Rattle.std.proofs.lemmas.Bool.{and_parts, eqb-true}
use Rattle.std.proofs.lemmas.Bool.Decides.{Decides-int_eq}
use Rattle.std.proofs.lemmas.Int.{ints}
use Rattle.vec_base.specs.declared.shadow.ShadowKey.{ShadowKey}
use Rattle.shadow_records.specs.Keys.{key_cmp, key_of}
use Rattle.shadow_records.specs.declared.kinds.TheConstants.{ROW_RECORDS}
use Rattle.record_bodies.specs.ReadRows.{body_among}
use Rattle.table_attach.specs.Attaching.{Records}
use Rattle.table_attach.specs.inner.Filling.{is_row_key}

then_equal : (r s : Ordering) → ordering_then r s ≡ Equal → (r ≡ Equal) × (s ≡ Equal)
then_equal Less s e = absurd cc
then_equal Equal s e = (refl, e)
then_equal Greater s e = absurd cc

is_equal : (o : Ordering) → is_eq o ≡ true → o ≡ Equal
is_equal Less e = absurd cc
is_equal Equal e = refl
is_equal Greater e = absurd cc

key_same : (x y : ShadowKey) → key_cmp x y ≡ Equal → x ≡ y
key_same x y e =
    let one = then_equal _ _ e in
    let two = then_equal _ _ one.1 in
    let three = then_equal _ _ two.1 in
    let table = nat_cmp-IsAntisymmetric x.table y.table one.0 in
    let kind = nat_cmp-IsAntisymmetric x.kind y.kind two.0 in
    let a = int_cmp-IsAntisymmetric x.a y.a three.0 in
    let b = int_cmp-IsAntisymmetric x.b y.b three.1 in
    λ i. record { table = table i; kind = kind i; a = a i; b = b i }

nat_itself : (n : ℕ) → nat_cmp n n ≡ Equal
nat_itself n = grind arith

int_itself : (z : ℤ) → int_cmp z z ≡ Equal
int_itself z = grind (arith, ints)

key_itself : (x : ShadowKey) → key_cmp x x ≡ Equal
key_itself x = rw (nat_itself x.table, nat_itself x.kind, int_itself x.a, int_itself x.b) refl

lt_eq : (o : Ordering) → is_lt o ≡ true → is_eq o ≡ true → ⊥
lt_eq Less a b = absurd cc
lt_eq Equal a b = absurd cc
lt_eq Greater a b = absurd cc

-- no key is behind itself
pub not_behind : (x : ShadowKey) → is_lt (key_cmp x x) ≡ true → ⊥
not_behind x less = lt_eq (key_cmp x x) less (ap is_eq (key_itself x))

abbrev pub IsOwn : Records → ShadowKey × List ℕ → Type 0
IsOwn records r = body_among records r.0 ≡ Some r.1

lifted : (e : ShadowKey × List ℕ) (es xs : Records) → below_all key_cmp e.0 xs ≡ true → AllByRecursion (IsOwn es) xs → AllByRecursion (IsOwn (e ∷ es)) xs
lifted e es [] below own = tt
lifted e es (x ∷ xs) below own =
    let p = and_parts (is_lt (key_cmp e.0 x.0)) (below_all key_cmp e.0 xs) below in
    (ap (λ t. cond t (Some e.1) (find key_cmp x.0 es)) (other (eq_by_cmp key_cmp x.0 e.0) refl p.0) ∙ own.0, lifted e es xs p.1 own.1)
  where
    other : (t : Bool) → eq_by_cmp key_cmp x.0 e.0 ≡ t → is_lt (key_cmp e.0 x.0) ≡ true → t ≡ false
    other false is less = refl
    other true is less = let same = key_same x.0 e.0 (is_equal (key_cmp x.0 e.0) is) in absurd (lt_eq (key_cmp e.0 x.0) less (ap (λ k. is_eq (key_cmp e.0 k)) same ∙ ap is_eq (key_itself e.0)))

-- each record is what is found under its key
pub all-own : (records : Records) → is_sorted key_cmp records ≡ true → AllByRecursion (IsOwn records) records
all-own [] rising = tt
all-own (e ∷ es) rising =
    let p = and_parts (below_all key_cmp e.0 es) (is_sorted key_cmp es) rising in
    (ap (λ t. cond t (Some e.1) (find key_cmp e.0 es)) (ap is_eq (key_itself e.0)), lifted e es es p.0 (all-own es p.1))

-- what is found is one of the records
pub found-among : (P : ShadowKey × List ℕ → Type 0) (records : Records) (key : ShadowKey) (body : List ℕ) → AllByRecursion P records → body_among records key ≡ Some body → P (key, body)
found-among P [] key body all is = absurd cc
found-among P (e ∷ es) key body all is = by_test (found-among P es key body all.1) (eq_by_cmp key_cmp key e.0) refl is where
  by_test : (body_among es key ≡ Some body → P (key, body)) → (t : Bool) → eq_by_cmp key_cmp key e.0 ≡ t → cond t (Some e.1) (find key_cmp key es) ≡ Some body → P (key, body)
  by_test more true here same =
      let key_is = key_same key e.0 (is_equal (key_cmp key e.0) here) in
      let body_is : e.1 ≡ body = cc in
      rw (key_is, sym body_is) all.0
  by_test more false e later = more later

-- ---- keys of rows

abbrev pub row_key : ℕ → ℤ → ShadowKey
row_key number rowid = key_of number ROW_RECORDS rowid (pos 0)

pub row_key-is : (number : ℕ) (key : ShadowKey) → is_row_key number key ≡ true → key ≡ row_key number key.a
row_key-is number key e =
    let p = and_parts (key.table == number) (key.kind == ROW_RECORDS && int_eq key.b (pos 0)) e in
    let r = and_parts (key.kind == ROW_RECORDS) (int_eq key.b (pos 0)) p.1 in
    let table = eqb-true key.table number p.0 in
    let kind = eqb-true key.kind ROW_RECORDS r.0 in
    let b = (Decides-int_eq key.b (pos 0)).0 r.1 in
    λ i. record { table = table i; kind = kind i; a = key.a; b = b i }

pub is_row_key-of : (number : ℕ) (rowid : ℤ) → is_row_key number (row_key number rowid) ≡ true
is_row_key-of number rowid = grind arith
