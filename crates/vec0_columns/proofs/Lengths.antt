-- The canonical text of a valid schema is short.
use Rattle.std.proofs.Common.{◌≡◌, ℕ, ◌+◌, ◌*◌, ◌≤◌, Bool, true, false, not, ◌&&◌, List, [], ◌∷◌, ◌++◌, codes, length, drop, None, cond, refl, arith, length-append}
use Rattle.std.specs.Prelude.{nat_le, nat_lt}
use Rattle.std.proofs.lemmas.Bool.{and_parts, leb-true, ltb-false}
use Rattle.std.proofs.lemmas.List.Sums.{sum_by-cons}
use Rattle.std.proofs.lemmas.Fmt.{length-decimal-le}
use Rattle.std.specs.Fmt.{decimal}
use Rattle.std.specs.List.{list_all, flat_map}
use Rattle.row_model.specs.declared.schema.Column.{Column}
use Rattle.row_model.specs.declared.schema.Kind.{Kind}
use Rattle.row_model.specs.declared.schema.Kind.TheVariants.{IntKey, TextKey, Int8Vector, BitVector, IntPartition, TextPartition, IntMeta, TextMeta, BoolMeta, IntAux, TextAux, BlobAux}
use Rattle.row_model.specs.declared.schema.Metric.{Metric}
use Rattle.row_model.specs.declared.schema.Metric.TheVariants.{L1, L2}
use Rattle.row_model.specs.declared.schema.Schema.{Schema}
use Rattle.row_model.specs.CanonicalColumns.{metric_text, declared_text, column_text, canonical_columns}
use Rattle.vec_base.specs.Words.{is_small_word, is_name, is_reserved}
use Rattle.row_model.specs.Schemas.{is_key, is_vector, is_partition, is_metadata, is_auxiliary, count_of, has_some, is_misfit_int8, is_misfit_bits, schema_fault, IsValidSchema}
use Rattle.vec_base.specs.declared.limits.TheConstants.{MOST_TEXT_BYTES}
use Rattle.vec0_columns.proofs.Written.{head_kept, others_kept, tests_of, has_sizes, neither, width_int8, width_bits, chunk_few}

-- ---- how many columns there are

-- each kind is of one family
one_family : (kind : Kind) → cond (is_key kind) 1 0 + cond (is_vector kind) 1 0 + cond (is_partition kind) 1 0 + cond (is_metadata kind) 1 0 + cond (is_auxiliary kind) 1 0 ≡ 1
one_family IntKey = refl
one_family TextKey = refl
one_family (Int8Vector width metric) = refl
one_family (BitVector width) = refl
one_family IntPartition = refl
one_family TextPartition = refl
one_family IntMeta = refl
one_family TextMeta = refl
one_family BoolMeta = refl
one_family IntAux = refl
one_family TextAux = refl
one_family BlobAux = refl

counted : (family : Kind → Bool) (c : Column) (cs : List Column) → count_of family (c ∷ cs) ≡ cond (family c.kind) 1 0 + count_of family cs
counted family c cs = sum_by-cons (λ (column : Column). cond (family column.kind) 1 0) c cs

families : (cs : List Column) → length cs ≡ count_of is_key cs + count_of is_vector cs + count_of is_partition cs + count_of is_metadata cs + count_of is_auxiliary cs
families [] = refl
families (c ∷ cs) =
    omega (arith, one_family c.kind, families cs, counted is_key c cs, counted is_vector c cs, counted is_partition c cs, counted is_metadata c cs, counted is_auxiliary c cs)

few_columns : (schema : Schema) → schema_fault schema ≡ None → length schema.columns ≤ 53
few_columns schema h =
    let cs : List Column = schema.columns in
    let vectors : count_of is_vector cs ≤ 16 = ltb-false 16 (count_of is_vector cs) (head_kept (nat_lt 16 (count_of is_vector cs)) 2 (drop 2 (tests_of schema)) (others_kept 1 (tests_of schema) h)) in
    let partitions : count_of is_partition cs ≤ 4 = ltb-false 4 (count_of is_partition cs) (head_kept (nat_lt 4 (count_of is_partition cs)) 3 (drop 3 (tests_of schema)) (others_kept 2 (tests_of schema) h)) in
    let metadata : count_of is_metadata cs ≤ 16 = ltb-false 16 (count_of is_metadata cs) (head_kept (nat_lt 16 (count_of is_metadata cs)) 4 (drop 4 (tests_of schema)) (others_kept 3 (tests_of schema) h)) in
    let auxiliaries : count_of is_auxiliary cs ≤ 16 = ltb-false 16 (count_of is_auxiliary cs) (head_kept (nat_lt 16 (count_of is_auxiliary cs)) 5 (drop 5 (tests_of schema)) (others_kept 4 (tests_of schema) h)) in
    let keys : count_of is_key cs ≤ 1 = ltb-false 1 (count_of is_key cs) (head_kept (nat_lt 1 (count_of is_key cs)) 6 (drop 6 (tests_of schema)) (others_kept 5 (tests_of schema) h)) in
    omega (arith, families cs, vectors, partitions, metadata, auxiliaries, keys)

-- ---- how long a column is

short_decimal : (n : ℕ) → n ≤ 8192 → length (decimal n) ≤ 4
short_decimal n few = length-decimal-le 4 n (omega arith) (omega arith) (omega arith)

metric_length : (metric : Metric) → length (metric_text metric) ≡ 2
metric_length L1 = refl
metric_length L2 = refl

-- the parts of a text of four and of five parts, one behind the other
three_lengths : (a b c : List ℕ) → length (a ++ b ++ c) ≡ length a + length b + length c
three_lengths a b c = omega (arith, length-append (a ++ b) c, length-append a b)

five_lengths : (a b c d e : List ℕ) → length (a ++ b ++ c ++ d ++ e) ≡ length a + length b + length c + length d + length e
five_lengths a b c d e = omega (arith, three_lengths (a ++ b ++ c) d e, three_lengths a b c)

declared_length : (name : List ℕ) (kind : Kind) → is_misfit_int8 kind ≡ false → is_misfit_bits kind ≡ false → length (declared_text name kind) ≤ length name + 30
declared_length name IntKey i b = omega (arith, length-append name (codes " integer primary key"))
declared_length name TextKey i b = omega (arith, length-append name (codes " text primary key"))
declared_length name (Int8Vector width metric) i b =
    omega (arith, five_lengths name (codes " int8[") (decimal width) (codes "] distance_metric=") (metric_text metric), short_decimal width (width_int8 width metric i), metric_length metric)
declared_length name (BitVector width) i b =
    omega (arith, three_lengths (name ++ codes " bit[") (decimal width) (codes "]"), length-append name (codes " bit["), short_decimal width (width_bits width b))
declared_length name IntPartition i b = omega (arith, length-append name (codes " integer partition key"))
declared_length name TextPartition i b = omega (arith, length-append name (codes " text partition key"))
declared_length name IntMeta i b = omega (arith, length-append name (codes " integer"))
declared_length name TextMeta i b = omega (arith, length-append name (codes " text"))
declared_length name BoolMeta i b = omega (arith, length-append name (codes " boolean"))
declared_length name IntAux i b = omega (arith, length-append name (codes " integer"))
declared_length name TextAux i b = omega (arith, length-append name (codes " text"))
declared_length name BlobAux i b = omega (arith, length-append name (codes " blob"))

abbrev written : List Column → List ℕ
written cs = flat_map (λ column. column_text column ++ codes ", ") cs

written_length : (cs : List Column) → list_all (λ column. is_name column.name) cs ≡ true → has_some is_misfit_int8 cs ≡ false → has_some is_misfit_bits cs ≡ false → length (written cs) ≤ 96 * length cs
written_length [] n i b = omega arith
written_length (c ∷ cs) n i b =
    let names = and_parts (is_name c.name) (list_all (λ column. is_name column.name) cs) n in
    let name = and_parts (is_small_word c.name && nat_le (length c.name) 64) (not (is_reserved c.name)) names.0 in
    let few : length c.name ≤ 64 = leb-true (length c.name) 64 (and_parts (is_small_word c.name) (nat_le (length c.name) 64) name.0).1 in
    let bytes = neither (is_misfit_int8 c.kind) (has_some is_misfit_int8 cs) i in
    let bits = neither (is_misfit_bits c.kind) (has_some is_misfit_bits cs) b in
    let first : length (column_text c) ≤ length c.name + 30 = declared_length c.name c.kind bytes.0 bits.0 in
    let rest : length (written cs) ≤ 96 * length cs = written_length cs names.1 bytes.1 bits.1 in
    omega (arith, few, first, rest, length-append (column_text c ++ codes ", ") (written cs), length-append (column_text c) (codes ", "))

-- 53 columns of 96 bytes, and the chunk size
canonical_length : (schema : Schema) → IsValidSchema schema → length (canonical_columns schema) ≤ 5103
canonical_length schema valid =
    let sizes = has_sizes schema valid.rules in
    let columns : length (written schema.columns) ≤ 96 * length schema.columns = written_length schema.columns valid.names sizes.bytes sizes.bits in
    omega (arith, columns, few_columns schema valid.rules, three_lengths (written schema.columns) (codes "chunk_size=") (decimal schema.chunk_size), short_decimal schema.chunk_size (omega (arith, chunk_few schema.chunk_size sizes.chunk)))

-- so it is within the greatest length of a text
pub canonical_short : (schema : Schema) → IsValidSchema schema → length (canonical_columns schema) ≤ MOST_TEXT_BYTES
canonical_short schema valid = omega (arith, canonical_length schema valid)
