-- What the terms on the rowid say of a row's rowid.
use Rattle.std.proofs.Common.{◌≡◌, ℕ, ℤ, true, false, cond, refl, sym, ◌∙◌, ap, Less, Equal, Greater}
use Rattle.std.specs.Prelude.{int_lt}
use Rattle.std.specs.Ordering.{int_cmp, is_eq}
use Rattle.std.specs.declared.cmp.Ordering.{Ordering}
use Rattle.std.proofs.lemmas.Cmp.{int_ranked}
use Rattle.vec_base.specs.declared.value.Op.{Op}
use Rattle.vec_base.specs.declared.value.Op.TheVariants.{Eq, Ne, Lt, Le, Gt, Ge}
use Rattle.vec_base.specs.declared.value.Value.TheVariants.{Int}
use Rattle.vec_base.specs.Comparison.{holds}
use Rattle.row_model.specs.Values.{passes, value_at}
use Rattle.row_model.specs.declared.row.Row.{Row}
use Rattle.row_model.specs.declared.schema.Kind.{Kind}
use Rattle.row_model.specs.declared.schema.Kind.TheVariants.{IntKey, TextKey, Int8Vector, BitVector, IntPartition, TextPartition, IntMeta, TextMeta, BoolMeta, IntAux, TextAux, BlobAux}
use Rattle.row_model.specs.declared.schema.Place.{Place}
use Rattle.row_model.specs.declared.schema.Place.TheVariants.{Unknown, Rowid, Declared, Count, Distance}
use Rattle.row_model.specs.declared.statement.Test.TheVariants.{Compare}
use Rattle.knn_plan.specs.TermUses.{is_lower, is_rowid}

key_value : (number : ℕ) (kind : Kind) (row : Row) → is_rowid (Declared number kind) ≡ true → value_at (Declared number kind) row ≡ Int row.rowid
key_value number IntKey row is = refl
key_value number TextKey row is = absurd cc
key_value number (Int8Vector width metric) row is = absurd cc
key_value number (BitVector width) row is = absurd cc
key_value number IntPartition row is = absurd cc
key_value number TextPartition row is = absurd cc
key_value number IntMeta row is = absurd cc
key_value number TextMeta row is = absurd cc
key_value number BoolMeta row is = absurd cc
key_value number IntAux row is = absurd cc
key_value number TextAux row is = absurd cc
key_value number BlobAux row is = absurd cc

-- the value there is the rowid
pub rowid_value : (place : Place) (row : Row) → is_rowid place ≡ true → value_at place row ≡ Int row.rowid
rowid_value Unknown row is = absurd cc
rowid_value Rowid row is = refl
rowid_value (Declared number kind) row is = key_value number kind row is
rowid_value Count row is = absurd cc
rowid_value Distance row is = absurd cc

lower_fails : (op : Op) (n : ℤ) → is_lower (Compare op (Int n)) ≡ true → holds op Less ≡ false
lower_fails Eq n lower = absurd cc
lower_fails Ne n lower = absurd cc
lower_fails Lt n lower = absurd cc
lower_fails Le n lower = absurd cc
lower_fails Gt n lower = refl
lower_fails Ge n lower = refl

-- no row below the number of a lower bound meets it
pub below_start : (op : Op) (n : ℤ) (place : Place) (row : Row) → is_rowid place ≡ true → is_lower (Compare op (Int n)) ≡ true → int_lt row.rowid n ≡ true →
    passes (Compare op (Int n)) (value_at place row) ≡ false
below_start op n place row is lower below =
    ap (passes (Compare op (Int n))) (rowid_value place row is)
    ∙ ap (λ b. holds op (cond b Less (cond (int_lt n row.rowid) Greater Equal))) below
    ∙ lower_fails op n lower

equal_from : (o : Ordering) → is_eq o ≡ true → o ≡ Equal
equal_from Less is = absurd cc
equal_from Equal is = refl
equal_from Greater is = absurd cc

-- a row that meets an equality has this rowid
pub point_rowid : (n : ℤ) (place : Place) (row : Row) → is_rowid place ≡ true → passes (Compare Eq (Int n)) (value_at place row) ≡ true → row.rowid ≡ n
point_rowid n place row is met =
    let equal = equal_from (int_cmp row.rowid n) (sym (ap (passes (Compare Eq (Int n))) (rowid_value place row is)) ∙ met) in
    int_ranked row.rowid n Equal (sym equal)
