-- Given values as the values of a row: with the rowid in the integer key they are valid, and keep their texts, partition values and vectors.
use Rattle.std.proofs.Common.{◌≡◌, ℕ, ℤ, ◌+◌, Bool, true, false, cond, List, [], ◌∷◌, ◌∙◌, refl, sym, ap, ap₂, arith, Option}
use Rattle.std.specs.Prelude.{sum_by, if◌then◌else◌, FitsSigned}
use Rattle.std.specs.Int.{w64}
use Rattle.std.specs.List.{cons_option}
use Rattle.std.specs.Ordering.{int_eq}
use Rattle.std.proofs.lemmas.Bool.{and_parts, and_from}
use Rattle.std.proofs.lemmas.Int.{ints}
use Rattle.std.proofs.lemmas.List.Sums.{sum_by-cons}
use Rattle.vec_base.specs.Representable.{IsRepresentable}
use Rattle.vec_base.specs.declared.value.Value.{Value}
use Rattle.vec_base.specs.declared.value.Value.TheVariants.{Null, Int, Text, Blob, Int8, Bits}
use Rattle.chunk_slots.specs.Slots.{vector_of, vectors_of}
use Rattle.row_model.specs.Change.{keyed, keyed_value}
use Rattle.row_model.specs.ColumnNames.{is_text_key}
use Rattle.row_model.specs.RepresentableStatements.{AreRepresentable}
use Rattle.row_model.specs.Schemas.{is_partition}
use Rattle.row_model.specs.Valid.{is_valid_value, are_valid_values}
use Rattle.row_model.specs.Values.{side_bytes}
use Rattle.row_model.specs.declared.schema.Column.{Column}
use Rattle.row_model.specs.declared.schema.Kind.{Kind}
use Rattle.row_model.specs.declared.schema.Kind.TheVariants.{IntKey, TextKey, Int8Vector, BitVector, IntPartition, TextPartition, IntMeta, TextMeta, BoolMeta, IntAux, TextAux, BlobAux}
use Rattle.shadow_records.specs.PlacedTables.{partition_of}
use Rattle.row_chunks.specs.Cells.{cells_of, is_cell, is_cell_value}
use Rattle.table_version.specs.Inserting.{are_fitting}
use Rattle.table_version.specs.Kept.{id_in, text_in}

-- ---- one value

-- the value with the rowid in its place, where it is that of an integer key
record IsKeyedWell (kind : Kind) (rowid : ℤ) (value : Value) : Type 0 where
  valid : is_valid_value kind rowid (keyed_value kind rowid value) ≡ true
  text : is_text_key kind ≡ true → keyed_value kind rowid value ≡ value
  partition : is_partition kind ≡ true → keyed_value kind rowid value ≡ value
  vector : vector_of (keyed_value kind rowid value) ≡ vector_of value
  cell : is_cell kind ≡ true → keyed_value kind rowid value ≡ value
  sides : side_bytes (keyed_value kind rowid value) ≡ side_bytes value

same_number : (n : ℤ) → int_eq n n ≡ true
same_number n = grind (arith, ints)

key_well : (rowid : ℤ) (value : Value) → is_cell_value IntKey value ≡ true → IsKeyedWell IntKey rowid value
key_well rowid (Int n) fits = record { valid = same_number rowid; text = λ h. absurd cc; partition = λ h. absurd cc; vector = refl; cell = λ h. absurd cc; sides = refl }
key_well rowid Null fits = absurd cc
key_well rowid (Text text) fits = absurd cc
key_well rowid (Blob bytes) fits = absurd cc
key_well rowid (Int8 vector) fits = absurd cc
key_well rowid (Bits vector) fits = absurd cc

keyed_well : (kind : Kind) (rowid : ℤ) (value : Value) → is_cell_value kind value ≡ true → IsKeyedWell kind rowid value
keyed_well IntKey rowid value fits = key_well rowid value fits
keyed_well TextKey rowid value fits = record { valid = fits; text = λ h. refl; partition = λ h. refl; vector = refl; cell = λ h. refl; sides = refl }
keyed_well (Int8Vector width metric) rowid value fits = record { valid = fits; text = λ h. refl; partition = λ h. refl; vector = refl; cell = λ h. refl; sides = refl }
keyed_well (BitVector width) rowid value fits = record { valid = fits; text = λ h. refl; partition = λ h. refl; vector = refl; cell = λ h. refl; sides = refl }
keyed_well IntPartition rowid value fits = record { valid = fits; text = λ h. refl; partition = λ h. refl; vector = refl; cell = λ h. refl; sides = refl }
keyed_well TextPartition rowid value fits = record { valid = fits; text = λ h. refl; partition = λ h. refl; vector = refl; cell = λ h. refl; sides = refl }
keyed_well IntMeta rowid value fits = record { valid = fits; text = λ h. refl; partition = λ h. refl; vector = refl; cell = λ h. refl; sides = refl }
keyed_well TextMeta rowid value fits = record { valid = fits; text = λ h. refl; partition = λ h. refl; vector = refl; cell = λ h. refl; sides = refl }
keyed_well BoolMeta rowid value fits = record { valid = fits; text = λ h. refl; partition = λ h. refl; vector = refl; cell = λ h. refl; sides = refl }
keyed_well IntAux rowid value fits = record { valid = fits; text = λ h. refl; partition = λ h. refl; vector = refl; cell = λ h. refl; sides = refl }
keyed_well TextAux rowid value fits = record { valid = fits; text = λ h. refl; partition = λ h. refl; vector = refl; cell = λ h. refl; sides = refl }
keyed_well BlobAux rowid value fits = record { valid = fits; text = λ h. refl; partition = λ h. refl; vector = refl; cell = λ h. refl; sides = refl }

held : (kind : Kind) (rowid : ℤ) (value : Value) → FitsSigned w64 rowid → IsRepresentable value → IsRepresentable (keyed_value kind rowid value)
held IntKey rowid value fits one = fits
held TextKey rowid value fits one = one
held (Int8Vector width metric) rowid value fits one = one
held (BitVector width) rowid value fits one = one
held IntPartition rowid value fits one = one
held TextPartition rowid value fits one = one
held IntMeta rowid value fits one = one
held TextMeta rowid value fits one = one
held BoolMeta rowid value fits one = one
held IntAux rowid value fits one = one
held TextAux rowid value fits one = one
held BlobAux rowid value fits one = one

-- ---- all values of a row

-- the values with the rowid in its place
pub record AreKeyedWell (columns : List Column) (rowid : ℤ) (values : List Value) : Type 0 where
  pub valid : are_valid_values columns rowid (keyed columns rowid values) ≡ true
  pub id : id_in columns (keyed columns rowid values) ≡ id_in columns values
  pub partition : partition_of columns (keyed columns rowid values) ≡ partition_of columns values
  pub vectors : vectors_of (keyed columns rowid values) ≡ vectors_of values
  pub cells : cells_of columns (keyed columns rowid values) ≡ cells_of columns values
  pub sides : sum_by side_bytes (keyed columns rowid values) ≡ sum_by side_bytes values

same_id : (t : Bool) (a b : Value) (x y : Option (List ℕ)) → (t ≡ true → a ≡ b) → x ≡ y → (if t then text_in a else x) ≡ (if t then text_in b else y)
same_id true a b x y first rest = ap text_in (first refl)
same_id false a b x y first rest = rest

same_picked : (t : Bool) (a b : Value) (xs ys : List Value) → (t ≡ true → a ≡ b) → xs ≡ ys → cond t (a ∷ xs) xs ≡ cond t (b ∷ ys) ys
same_picked true a b xs ys first rest = ap₂ (λ (v : Value) (vs : List Value). v ∷ vs) (first refl) rest
same_picked false a b xs ys first rest = rest

same_sum : (a b : Value) (xs ys : List Value) → side_bytes a ≡ side_bytes b → sum_by side_bytes xs ≡ sum_by side_bytes ys → sum_by side_bytes (a ∷ xs) ≡ sum_by side_bytes (b ∷ ys)
same_sum a b xs ys first rest = sum_by-cons side_bytes a xs ∙ ap₂ (λ (m n : ℕ). m + n) first rest ∙ sym (sum_by-cons side_bytes b ys)

pub keyed-well : (columns : List Column) (rowid : ℤ) (values : List Value) → are_fitting columns values ≡ true → AreKeyedWell columns rowid values
keyed-well [] rowid [] fits = record { valid = refl; id = refl; partition = refl; vectors = refl; cells = refl; sides = refl }
keyed-well [] rowid (value ∷ values) fits = absurd cc
keyed-well (column ∷ columns) rowid [] fits = absurd cc
keyed-well (column ∷ columns) rowid (value ∷ values) fits =
    let parts = and_parts (is_cell_value column.kind value) (are_fitting columns values) fits in
    let one = keyed_well column.kind rowid value parts.0 in
    let rest = keyed-well columns rowid values parts.1 in
    let key = keyed_value column.kind rowid value in
    let keys = keyed columns rowid values in
    record {
      valid = and_from (is_valid_value column.kind rowid key) (are_valid_values columns rowid keys) one.valid rest.valid;
      id = same_id (is_text_key column.kind) key value (id_in columns keys) (id_in columns values) one.text rest.id;
      partition = same_picked (is_partition column.kind) key value (partition_of columns keys) (partition_of columns values) one.partition rest.partition;
      vectors = ap₂ (λ (o : Option (List ℕ)) (vs : List (List ℕ)). cons_option o vs) one.vector rest.vectors;
      cells = same_picked (is_cell column.kind) key value (cells_of columns keys) (cells_of columns values) one.cell rest.cells;
      sides = same_sum key value keys values one.sides rest.sides;
    }

pub keyed-representable : (columns : List Column) (rowid : ℤ) (values : List Value) → FitsSigned w64 rowid → AreRepresentable values → AreRepresentable (keyed columns rowid values)
keyed-representable [] rowid values fits all = all
keyed-representable (column ∷ columns) rowid [] fits all = tt
keyed-representable (column ∷ columns) rowid (value ∷ values) fits all = (held column.kind rowid value fits all.0, keyed-representable columns rowid values fits all.1)

pub sum_step : (value : Value) (values : List Value) → sum_by side_bytes (value ∷ values) ≡ side_bytes value + sum_by side_bytes values
sum_step value values = sum_by-cons side_bytes value values
