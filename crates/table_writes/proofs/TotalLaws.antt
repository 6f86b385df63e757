-- Sums that saturate, against the limits.
use Rattle.std.proofs.Common.{◌≡◌, ℕ, zero, suc, ◌+◌, ◌*◌, ◌-◌, ◌≤◌, ap, arith, inl, inr, ◌⊎◌}
use Rattle.std.specs.Prelude.{min, nat_lt}
use Rattle.std.proofs.lemmas.Bool.{cases_Bool, ltb-false, ltb-true}
use Rattle.vec_base.specs.declared.limits.TheConstants.{LAST_COUNT}
use Rattle.vec_base.specs.declared.refusal.Refusal.TheVariants.{Full}
use Rattle.row_model.specs.Limits.{over}
use Rattle.row_model.specs.RefusalOrder.{when}
use Rattle.table_writes.specs.inner.Capped.{capped}

capped_twice : (n : ℕ) → min (capped n) LAST_COUNT ≡ min n LAST_COUNT
capped_twice n = omega arith

-- a count that saturates is refused as the count is
pub over_capped : (limit most n : ℕ) → over limit most (capped n) ≡ over limit most n
over_capped limit most n = ap (λ (m : ℕ). when (nat_lt most m) (Full limit m)) (capped_twice n)

pub three : (a b c : ℕ) → capped (capped (a + b) + capped c) ≡ capped (a + b + c)
three a b c = omega arith

-- ---- products

one_more : (m n : ℕ) → suc m * n ≡ n + m * n
one_more m n = omega arith

low_or_high : (m : ℕ) → (m ≤ LAST_COUNT) ⊎ (LAST_COUNT ≤ m)
low_or_high m = elim (cases_Bool (nat_lt LAST_COUNT m)) [
  | inl above ↦ (let high = ltb-true LAST_COUNT m above in inr (omega (arith, high)))
  | inr below ↦ inl (ltb-false LAST_COUNT m below)
]

pub times_capped : (n m : ℕ) → capped (n * capped m) ≡ capped (n * m)
times_capped zero m = omega arith
times_capped (suc k) m =
    let a = one_more k m in
    let b = one_more k (capped m) in
    elim (low_or_high m) [
      | inl low ↦ (let same : capped m ≡ m = omega (arith, low) in ap (λ (x : ℕ). capped (suc k * x)) same)
      | inr high ↦ (let most : capped m ≡ LAST_COUNT = omega (arith, high) in omega (arith, a, b, most, high))
    ]

-- ---- the bytes after an UPDATE

pub side_is : (beside before gone come n after : ℕ) → after + gone ≡ before + n * come → gone ≤ before → before ≤ LAST_COUNT →
    capped (beside + capped (before - capped gone + capped (n * capped come))) ≡ capped (beside + after)
side_is beside before gone come n after sum most fits =
    let product = times_capped n come in
    omega (arith, sum, most, fits, product)
