-- The order of keys is total, and keys that it holds equal are the same.
use Rattle.std.proofs.Common.{◌≡◌, ℕ, Bool, true, false, refl}
use Rattle.std.specs.declared.cmp.Ordering.{Ordering}
use Rattle.std.specs.declared.cmp.Ordering.TheVariants.{Less, Equal, Greater}
use Rattle.std.specs.Ordering.{ordering_then, eq_by_cmp}
use Rattle.std.specs.Cmp.{IsTotalOrder, eq_by_cmp_equiv}
use Rattle.std.specs.FinMap.{IsAntisymmetric, nat_cmp-IsAntisymmetric, int_cmp-IsAntisymmetric}
use Rattle.vec_base.specs.declared.shadow.ShadowKey.{ShadowKey}
use Rattle.vec_base.specs.contracts.shadow.ShadowKeyOrd.TheImpl.Laws.{total-law}
use Rattle.shadow_records.specs.Keys.{key_cmp, is_key}

pub key_total : IsTotalOrder key_cmp
key_total = total-law

both_equal : (r s : Ordering) → ordering_then r s ≡ Equal → (r ≡ Equal) × (s ≡ Equal)
both_equal Less s e = absurd cc
both_equal Equal s e = (refl, e)
both_equal Greater s e = absurd cc

pub key_same : IsAntisymmetric key_cmp
key_same x y e =
    let one = both_equal _ _ e in
    let two = both_equal _ _ one.1 in
    let three = both_equal _ _ two.1 in
    let table = nat_cmp-IsAntisymmetric x.table y.table one.0 in
    let kind = nat_cmp-IsAntisymmetric x.kind y.kind two.0 in
    let a = int_cmp-IsAntisymmetric x.a y.a three.0 in
    let b = int_cmp-IsAntisymmetric x.b y.b three.1 in
    λ i. record { table = table i; kind = kind i; a = a i; b = b i }

is_equal : (o : Ordering) → eq_by_cmp (λ (x y : ℕ). o) 0 0 ≡ true → o ≡ Equal
is_equal Less e = absurd cc
is_equal Equal e = refl
is_equal Greater e = absurd cc

pub key_is : (x y : ShadowKey) → is_key x y ≡ true → x ≡ y
key_is x y e = key_same x y (is_equal (key_cmp x y) e)

pub is_key-same : (x : ShadowKey) → is_key x x ≡ true
is_key-same x = (eq_by_cmp_equiv key_total).refl x

pub is_key-other : (x y : ShadowKey) → (x ≡ y → ⊥) → is_key x y ≡ false
is_key-other x y apart = told (is_key x y) refl where
  told : (b : Bool) → is_key x y ≡ b → is_key x y ≡ false
  told true e = absurd (apart (key_is x y e))
  told false e = e
