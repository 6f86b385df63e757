-- The bytes of cells.
use Rattle.std.proofs.Common.{◌≡◌, ℕ, zero, suc, ◌+◌, ◌≤◌, List, [], ◌∷◌, ◌++◌, length, take, replicate, refl, ap, ◌∙◌, arith}
use Rattle.std.specs.declared.option.Option.{Option}
use Rattle.std.specs.declared.option.Option.TheVariants.{Some, None}
use Rattle.vec_base.specs.declared.value.Value.{Value}
use Rattle.vec_base.specs.declared.value.Value.TheVariants.{Null, Int, Text, Blob, Int8, Bits}
use Rattle.chunk_slots.specs.Slots.{vector_of}
use Rattle.shadow_records.specs.Cells.{value_cell}
use Rattle.shadow_records.specs.PlacedTables.{PlacedRow}
use Rattle.shadow_records.specs.Records.{rowid_cell}
use Rattle.std.specs.Option.{option_map}
use Rattle.table_bodies.specs.inner.Parts.{rowid_bytes}
use Rattle.table_version.specs.Versions.{rowid_in}

pub view_long : (n : ℕ) (text zeros : List ℕ) → n ≤ length text → take n (text ++ zeros) ≡ take n text
view_long zero text zeros few = refl
view_long (suc n) [] zeros few = absurd (omega arith)
view_long (suc n) (b ∷ text) zeros few = ap (λ bs. b ∷ bs) (view_long n text zeros (omega arith))

take_zeros : (n m : ℕ) → n ≤ m → take {A = ℕ} n (replicate m 0) ≡ replicate n 0
take_zeros zero m few = refl
take_zeros (suc n) zero few = absurd (omega arith)
take_zeros (suc n) (suc m) few = ap (λ bs. 0 ∷ bs) (take_zeros n m (omega arith))

pub view_short : (n m k : ℕ) (text : List ℕ) → n ≡ length text + k → n ≤ m → take n (text ++ replicate m 0) ≡ text ++ replicate k 0
view_short n m k [] is most = let same : n ≡ k = omega (arith, is) in take_zeros n m most ∙ ap (λ i. replicate {A = ℕ} i 0) same
view_short zero m k (b ∷ text) is most = absurd (omega arith)
view_short (suc n) m k (b ∷ text) is most = ap (λ bs. b ∷ bs) (view_short n m k text (omega arith) (omega arith))

pub rowid_shown : (o : Option PlacedRow) → rowid_bytes (option_map rowid_in o) ≡ rowid_cell o
rowid_shown None = refl
rowid_shown (Some p) = refl

pub vector_cell : (x : Value) (vector : List ℕ) → vector_of x ≡ Some vector → value_cell x ≡ vector
vector_cell Null vector e = absurd cc
vector_cell (Int n) vector e = absurd cc
vector_cell (Text text) vector e = absurd cc
vector_cell (Blob bytes) vector e = absurd cc
vector_cell (Int8 bytes) vector e = cc
vector_cell (Bits bytes) vector e = cc
