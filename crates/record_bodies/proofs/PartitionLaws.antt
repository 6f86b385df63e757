-- Partition values and text ids that are read back.
use Rattle.std.proofs.Common.{◌≡◌, ℕ, ◌+◌, ◌<◌, ◌≤◌, ◌^◌, ℤ, List, [], ◌∷◌, ◌++◌, length, get_or, take, drop, cond, Bool, true, false, refl, sym, ap, ap₂, ◌∙◌, subst, arith, append-nil, flat_map}
use Rattle.std.specs.declared.option.Option.TheVariants.{Some, None}
use Rattle.std.specs.List.{slice_get}
use Rattle.std.specs.Int.{to_le_bytes, w32}
use Rattle.std.specs.Str.{is_utf8}
use Rattle.std.proofs.lemmas.Bool.{and_parts, false≢true, eq-eqb}
use Rattle.std.proofs.lemmas.Nat.{from_le_bytes-to_le_bytes_4}
use Rattle.std.proofs.Math.Seq.{take-append_seam, drop-append_seam}
use Rattle.vec_base.specs.Representable.{IsRepresentable}
use Rattle.vec_base.specs.declared.value.Value.{Value}
use Rattle.vec_base.specs.declared.value.Value.TheVariants.{Null, Text}
use Rattle.row_model.specs.RepresentableStatements.{AreRepresentable}
use Rattle.row_model.specs.declared.schema.Column.{Column}
use Rattle.row_model.specs.declared.schema.Kind.{Kind}
use Rattle.row_model.specs.declared.schema.Kind.TheVariants.{IntKey, TextKey, Int8Vector, BitVector, IntPartition, TextPartition, IntMeta, TextMeta, BoolMeta, IntAux, TextAux, BlobAux}
use Rattle.row_model.specs.Schemas.{is_partition, is_key, count_of}
use Rattle.row_model.specs.Valid.{is_valid_value, are_valid_values}
use Rattle.shadow_records.specs.Cells.{partition_value_bytes}
use Rattle.shadow_records.specs.PlacedTables.{partition_of}
use Rattle.shadow_records.specs.Records.{id_of, id_bytes}
use Rattle.record_bodies.specs.Bodies.{length_in, text_in, partition_width, partition_value, partition_in, joined}
use Rattle.record_bodies.proofs.ColumnLaws.{count_in, count_out}
use Rattle.record_bodies.proofs.ValueLaws.{int_back, text_back, IsInt, IsText, as_partition_int, as_partition_text}

-- The bytes of a value in a partition column are as many as those in front tell, and they are this value.
pub record ReadsBack (kind : Kind) (x : Value) : Type 0 where
  pub width : (more : List ℕ) → partition_width kind (partition_value_bytes x ++ more) ≡ length (partition_value_bytes x)
  pub value : partition_value kind (partition_value_bytes x) ≡ Some x

pub int_reads_back : (x : Value) → IsInt x → IsRepresentable x → ReadsBack IntPartition x
int_reads_back x is fits = subst (ReadsBack IntPartition) (sym is.1) (record { width = λ more. refl; value = int_back is.0 (subst IsRepresentable is.1 fits) })

text_length : (t : List ℕ) → length t < 2 ^ 32 → length_in (to_le_bytes w32 (length t)) ≡ length t
text_length t fits = from_le_bytes-to_le_bytes_4 (length t) fits

pub text_reads_back : (x : Value) → IsText x → IsRepresentable x → ReadsBack TextPartition x
text_reads_back x is fits =
    let t = is.0 in
    let long : length_in (to_le_bytes w32 (length t)) ≡ length t = text_length t is.1.1 in
    let utf8 : is_utf8 t ≡ true = subst IsRepresentable is.1.0 fits in
    let whole : length (partition_value_bytes (Text t)) ≡ partition_width TextPartition (partition_value_bytes (Text t)) = omega (arith, long) in
    subst (ReadsBack TextPartition) (sym is.1.0) (record {
      width = λ more. ap (λ n. 5 + n) long ∙ omega arith;
      value = ap (λ b. cond b (text_in t) None) (eq-eqb (length (partition_value_bytes (Text t))) (partition_width TextPartition (partition_value_bytes (Text t))) whole) ∙ text_back t utf8;
    })

reads_back : (kind : Kind) (rowid : ℤ) (x : Value) → is_partition kind ≡ true → is_valid_value kind rowid x ≡ true → IsRepresentable x → ReadsBack kind x
reads_back IntKey i x p e h = absurd (false≢true p)
reads_back TextKey i x p e h = absurd (false≢true p)
reads_back (Int8Vector w m) i x p e h = absurd (false≢true p)
reads_back (BitVector w) i x p e h = absurd (false≢true p)
reads_back IntPartition i x p e h = int_reads_back x (as_partition_int i x e) h
reads_back TextPartition i x p e h = text_reads_back x (as_partition_text i x e) h
reads_back IntMeta i x p e h = absurd (false≢true p)
reads_back TextMeta i x p e h = absurd (false≢true p)
reads_back BoolMeta i x p e h = absurd (false≢true p)
reads_back IntAux i x p e h = absurd (false≢true p)
reads_back TextAux i x p e h = absurd (false≢true p)
reads_back BlobAux i x p e h = absurd (false≢true p)

abbrev bytes_of : List Value → List ℕ
bytes_of values = flat_map partition_value_bytes values

-- the value in front and those behind it
pub one_back : (kind : Kind) (x : Value) (columns : List Column) (values : List Value) → ReadsBack kind x → partition_in columns (bytes_of values) ≡ Some values →
    joined (partition_value kind (take (partition_width kind (partition_value_bytes x ++ bytes_of values)) (partition_value_bytes x ++ bytes_of values)))
    (partition_in columns (drop (partition_width kind (partition_value_bytes x ++ bytes_of values)) (partition_value_bytes x ++ bytes_of values))) ≡ Some (x ∷ values)
one_back kind x columns values back rest =
    ap (λ n. joined (partition_value kind (take n (partition_value_bytes x ++ bytes_of values))) (partition_in columns (drop n (partition_value_bytes x ++ bytes_of values)))) (back.width (bytes_of values))
    ∙ ap₂ (λ front behind. joined (partition_value kind front) (partition_in columns behind)) (take-append_seam (partition_value_bytes x) (bytes_of values)) (drop-append_seam (partition_value_bytes x) (bytes_of values))
    ∙ ap₂ joined back.value rest

-- the partition values of a row are what their bytes say
pub partition_back : (columns : List Column) (rowid : ℤ) (values : List Value) → are_valid_values columns rowid values ≡ true → AreRepresentable values →
    partition_in columns (flat_map partition_value_bytes (partition_of columns values)) ≡ Some (partition_of columns values)
partition_back [] i [] e h = refl
partition_back [] i (x ∷ values) e h = absurd (false≢true e)
partition_back (c ∷ columns) i [] e h = absurd (false≢true e)
partition_back (c ∷ columns) i (x ∷ values) e h = by (is_partition c.kind) refl (and_parts _ _ e) (partition_back columns i values (and_parts _ _ e).1 h.1) where
  by : (t : Bool) → is_partition c.kind ≡ t → (is_valid_value c.kind i x ≡ true) × (are_valid_values columns i values ≡ true) →
      partition_in columns (bytes_of (partition_of columns values)) ≡ Some (partition_of columns values) →
      partition_in (c ∷ columns) (bytes_of (cond (is_partition c.kind) (x ∷ partition_of columns values) (partition_of columns values)))
      ≡ Some (cond (is_partition c.kind) (x ∷ partition_of columns values) (partition_of columns values))
  by true f valid rest =
      let back = one_back c.kind x columns (partition_of columns values) (reads_back c.kind i x f valid.0 h.0) rest in
      rw f back
  by false f valid rest = rw f rest

-- a partition value stands among the others by how many partition columns are before its own
pub partition_there : (before after : List Column) (column : Column) (values : List Value) → is_partition column.kind ≡ true → length before < length values →
    slice_get (partition_of (before ++ column ∷ after) values) (count_of is_partition before) ≡ Some (get_or values (length before) Null)
partition_there [] after column [] is lt = absurd (omega arith)
partition_there [] after column (x ∷ values) is lt = ap (λ b. slice_get (cond b (x ∷ partition_of after values) (partition_of after values)) 0) is
partition_there (b ∷ before) after column [] is lt = absurd (omega arith)
partition_there (b ∷ before) after column (x ∷ values) is lt = by (is_partition b.kind) refl (partition_there before after column values is (omega arith)) where
  by : (t : Bool) → is_partition b.kind ≡ t → slice_get (partition_of (before ++ column ∷ after) values) (count_of is_partition before) ≡ Some (get_or values (length before) Null) →
      slice_get (cond (is_partition b.kind) (x ∷ partition_of (before ++ column ∷ after) values) (partition_of (before ++ column ∷ after) values)) (count_of is_partition (b ∷ before))
      ≡ Some (get_or values (length before) Null)
  by true f rest = ap₂ (λ t n. slice_get (cond t (x ∷ partition_of (before ++ column ∷ after) values) (partition_of (before ++ column ∷ after) values)) n) f (count_in is_partition b before f) ∙ rest
  by false f rest = ap₂ (λ t n. slice_get (cond t (x ∷ partition_of (before ++ column ∷ after) values) (partition_of (before ++ column ∷ after) values)) n) f (count_out is_partition b before f) ∙ rest

-- ---- text ids

no_id : (kind : Kind) (x : Value) → is_key kind ≡ false → id_of kind x ≡ []
no_id IntKey x e = refl
no_id TextKey x e = absurd (false≢true (sym e))
no_id (Int8Vector w m) x e = refl
no_id (BitVector w) x e = refl
no_id IntPartition x e = refl
no_id TextPartition x e = refl
no_id IntMeta x e = refl
no_id TextMeta x e = refl
no_id BoolMeta x e = refl
no_id IntAux x e = refl
no_id TextAux x e = refl
no_id BlobAux x e = refl

no_ids : (columns : List Column) (values : List Value) → count_of is_key columns ≡ 0 → id_bytes columns values ≡ []
no_ids [] values e = refl
no_ids (c ∷ columns) [] e = refl
no_ids (c ∷ columns) (x ∷ values) e = by (is_key c.kind) refl (no_ids columns values) where
  by : (t : Bool) → is_key c.kind ≡ t → (count_of is_key columns ≡ 0 → id_bytes columns values ≡ []) → id_of c.kind x ++ id_bytes columns values ≡ []
  by true f rest = (let more = count_in is_key c columns f in absurd (omega (arith, more, e)))
  by false f rest = (let same = count_out is_key c columns f in ap₂ ◌++◌ (no_id c.kind x f) (rest (sym same ∙ e)))

-- the text id is what stands in the text key
pub id_there : (before after : List Column) (column : Column) (values : List Value) (t : List ℕ) → column.kind ≡ TextKey → count_of is_key (before ++ column ∷ after) ≤ 1 → length before < length values →
    get_or values (length before) Null ≡ Text t → id_bytes (before ++ column ∷ after) values ≡ t
id_there [] after column [] t k few lt e = absurd (omega arith)
id_there [] after column (x ∷ values) t k few lt e =
    let more = count_in is_key column after (ap is_key k) in
    ap₂ (λ kind y. id_of kind y ++ id_bytes after values) k e ∙ ap (λ l. t ++ l) (no_ids after values (omega (arith, more, few))) ∙ append-nil t
id_there (b ∷ before) after column [] t k few lt e = absurd (omega arith)
id_there (b ∷ before) after column (x ∷ values) t k few lt e = by (is_key b.kind) refl (id_there before after column values t k) where
  by : (u : Bool) → is_key b.kind ≡ u →
      (count_of is_key (before ++ column ∷ after) ≤ 1 → length before < length values → get_or values (length before) Null ≡ Text t → id_bytes (before ++ column ∷ after) values ≡ t) →
      id_of b.kind x ++ id_bytes (before ++ column ∷ after) values ≡ t
  by true f rest = absurd (some_key before (omega (arith, count_in is_key b (before ++ column ∷ after) f, few))) where
    some_key : (before : List Column) → count_of is_key (before ++ column ∷ after) ≤ 0 → ⊥
    some_key [] h = (let more = count_in is_key column after (ap is_key k) in absurd (omega (arith, more, h)))
    some_key (c ∷ before) h = one (is_key c.kind) refl (some_key before) where
      one : (u : Bool) → is_key c.kind ≡ u → (count_of is_key (before ++ column ∷ after) ≤ 0 → ⊥) → ⊥
      one true g rest = (let more = count_in is_key c (before ++ column ∷ after) g in absurd (omega (arith, more, h)))
      one false g rest = (let same = count_out is_key c (before ++ column ∷ after) g in rest (omega (arith, same, h)))
  by false f rest = ap (λ l. l ++ id_bytes (before ++ column ∷ after) values) (no_id b.kind x f) ∙ rest (omega (arith, count_out is_key b (before ++ column ∷ after) f, few)) (omega arith) e
