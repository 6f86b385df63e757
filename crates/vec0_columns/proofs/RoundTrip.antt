-- The canonical text of a valid schema declares the schema.
use Rattle.std.proofs.Common.{◌≡◌, ℕ, ◌≤◌, Bool, true, false, not, ◌&&◌, ◌||◌, List, [], ◌∷◌, ◌++◌, codes, length, Option, Some, None, map, refl, sym, ◌∙◌, ap, subst, arith, append_assoc}
use Rattle.std.specs.Prelude.{nat_le, nat_lt}
use Rattle.std.proofs.lemmas.Bool.{and_parts, and_from}
use Rattle.std.proofs.lemmas.Bool.Decides.{nat_tests}
use Rattle.std.specs.Char.{to_ascii_lowercase}
use Rattle.std.specs.Fmt.{decimal}
use Rattle.std.specs.List.{list_all, list_any, flat_map, count_by}
use Rattle.vec_literal.specs.Lexemes.{Lexeme, word_lexeme, number_lexeme, mark_lexeme}
use Rattle.vec_literal.specs.Tokens.{tokens}
use Rattle.grammar.specs.Grammar.{Part, seq, alt, opt, many, means, ◌▸◌, ◌◂◌, a_word, a_mark, a_name, a_number, lowered}
use Rattle.grammar.proofs.Lexemes.{LexemesSpell, of_seq, of_means, of_second, of_first, of_left, of_right, of_none, of_some, of_nothing, of_more, of_word, of_mark, of_name, of_number}
use Rattle.row_model.specs.declared.schema.Column.{Column}
use Rattle.row_model.specs.declared.schema.Kind.{Kind}
use Rattle.row_model.specs.declared.schema.Kind.TheVariants.{IntKey, TextKey, Int8Vector, BitVector, IntPartition, TextPartition, IntMeta, TextMeta, BoolMeta, IntAux, TextAux, BlobAux}
use Rattle.row_model.specs.declared.schema.Metric.{Metric}
use Rattle.row_model.specs.declared.schema.Metric.TheVariants.{L1, L2}
use Rattle.row_model.specs.declared.schema.Schema.{Schema}
use Rattle.row_model.specs.CanonicalColumns.{metric_text, canonical_columns}
use Rattle.vec_base.specs.Words.{is_name_byte, is_small_letter, is_small_word, is_name, is_reserved}
use Rattle.row_model.specs.Schemas.{schema_fault, IsValidSchema, is_misfit_int8, is_misfit_bits, has_some}
use Rattle.vec0_columns.specs.declared.text.Spelled.{Spelled}
use Rattle.vec0_columns.specs.declared.text.Spelled.TheVariants.{Int8, Bits, Plain}
use Rattle.vec0_columns.specs.declared.text.Arg.{Arg}
use Rattle.vec0_columns.specs.declared.text.Arg.TheVariants as args
use Rattle.vec0_columns.specs.inner.CanonicalLexemes.{size_lexemes, declared_lexemes, column_lexemes, canonical_lexemes}
use Rattle.vec0_columns.specs.ColumnReading.{Declares}
use Rattle.vec0_columns.specs.ColumnGrammar.{integer_word, boolean_word, text_word, blob_word, stands_for, primary_key, partition_key, metric, vector, int8, bits, column, auxiliary, chunk_size, arg, columns, columns_of, sizes_of, schema_of, is_bits_with_metric, is_size, text_fault, least, rule_where, kind_of, first_or}
use Rattle.vec0_columns.specs.inner.CanonicalParts.{spelled_kind, column_part, parts_of}
use Rattle.vec0_columns.proofs.Lengths.{canonical_short}
use Rattle.vec0_columns.proofs.Written.{has_sizes, neither, width_int8, width_bits, chunk_few, size_last, lexemes_of_canonical}

-- ---- names

small_byte : (b : ℕ) → is_name_byte b ≡ true → to_ascii_lowercase b ≡ b
small_byte b h = grind (arith, nat_tests)

small_letter_byte : (b : ℕ) → is_small_letter b ≡ true → is_name_byte b ≡ true
small_letter_byte b h = grind (arith, nat_tests)

small_bytes : (bs : List ℕ) → list_all is_name_byte bs ≡ true → lowered bs ≡ bs
small_bytes [] h = refl
small_bytes (b ∷ bs) h =
    let p = and_parts (is_name_byte b) (list_all is_name_byte bs) h in
    ap (λ (z : ℕ). z ∷ lowered bs) (small_byte b p.0) ∙ ap (λ (z : List ℕ). b ∷ z) (small_bytes bs p.1)

small_name : (word : List ℕ) → is_small_word word ≡ true → lowered word ≡ word
small_name [] h = refl
small_name (b ∷ bs) h =
    let p = and_parts (is_small_letter b) (list_all is_name_byte bs) h in
    small_bytes (b ∷ bs) (and_from _ _ (small_letter_byte b p.0) p.1)

-- a name of a column is a name of the grammar
pub name_spelled : (word : List ℕ) → is_name word ≡ true → LexemesSpell a_name (word_lexeme word ∷ []) word
name_spelled word h =
    let p = and_parts (is_small_word word && nat_le (length word) 64) (not (is_reserved word)) h in
    let q = and_parts (is_small_word word) (nat_le (length word) 64) p.0 in
    of_name word (small_name word q.0) q.1 p.1

-- ---- kinds

integer_spelled : LexemesSpell integer_word (word_lexeme (codes "integer") ∷ []) tt
unfolding integer_word
integer_spelled = of_left (of_word (codes "INTEGER") (codes "integer") refl)

boolean_spelled : LexemesSpell boolean_word (word_lexeme (codes "boolean") ∷ []) tt
unfolding boolean_word
boolean_spelled = of_left (of_word (codes "BOOLEAN") (codes "boolean") refl)

text_spelled : LexemesSpell text_word (word_lexeme (codes "text") ∷ []) tt
text_spelled = of_word (codes "TEXT") (codes "text") refl

blob_spelled : LexemesSpell blob_word (word_lexeme (codes "blob") ∷ []) tt
blob_spelled = of_word (codes "BLOB") (codes "blob") refl

kind_spelled : (kind : Kind) (p : Part (Unit {0})) (ls : List Lexeme) → LexemesSpell p ls tt → LexemesSpell (stands_for kind p) ls (Plain kind)
kind_spelled kind p ls h = of_means (λ x. Plain kind) p ls tt h

primary_spelled : (kind : Kind) → LexemesSpell (primary_key kind) (word_lexeme (codes "primary") ∷ word_lexeme (codes "key") ∷ []) (Plain kind)
primary_spelled kind =
    kind_spelled kind (a_word (codes "PRIMARY") ▸ a_word (codes "KEY")) _
    (of_second (a_word (codes "PRIMARY")) (a_word (codes "KEY")) (word_lexeme (codes "primary") ∷ []) (word_lexeme (codes "key") ∷ []) tt tt (of_word (codes "PRIMARY") (codes "primary") refl) (of_word (codes "KEY") (codes "key") refl))

partition_spelled : (kind : Kind) → LexemesSpell (partition_key kind) (word_lexeme (codes "partition") ∷ word_lexeme (codes "key") ∷ []) (Plain kind)
partition_spelled kind =
    kind_spelled kind (a_word (codes "PARTITION") ▸ a_word (codes "KEY")) _
    (of_second (a_word (codes "PARTITION")) (a_word (codes "KEY")) (word_lexeme (codes "partition") ∷ []) (word_lexeme (codes "key") ∷ []) tt tt (of_word (codes "PARTITION") (codes "partition") refl) (of_word (codes "KEY") (codes "key") refl))

metric_spelled : (m : Metric) → LexemesSpell metric (word_lexeme (codes "distance_metric") ∷ mark_lexeme (codes "=") ∷ word_lexeme (metric_text m) ∷ []) m
unfolding metric
metric_spelled m =
    of_second _ _ (word_lexeme (codes "distance_metric") ∷ []) (mark_lexeme (codes "=") ∷ word_lexeme (metric_text m) ∷ []) tt m (of_word (codes "DISTANCE_METRIC") (codes "distance_metric") refl)
    (of_second _ _ (mark_lexeme (codes "=") ∷ []) (word_lexeme (metric_text m) ∷ []) tt m (of_mark (codes "=") refl) (choice m))
  where
    choice : (k : Metric) → LexemesSpell (alt (means (λ x. L1) (a_word (codes "L1"))) (means (λ x. L2) (a_word (codes "L2")))) (word_lexeme (metric_text k) ∷ []) k
    choice L1 = of_left (of_means (λ x. L1) (a_word (codes "L1")) _ tt (of_word (codes "L1") (codes "l1") refl))
    choice L2 = of_right (of_means (λ x. L2) (a_word (codes "L2")) _ tt (of_word (codes "L2") (codes "l2") refl))

vector_spelled : (f : ℕ → Option Metric → Spelled) (n : ℕ) (m : Option Metric) (ls : List Lexeme) → n ≤ 8192 → LexemesSpell (opt metric) ls m → LexemesSpell (vector f) (size_lexemes n ++ ls) (f n m)
vector_spelled f n m ls few h =
    of_means (λ x. f x.0 x.1) (a_mark (codes "[") ▸ seq (a_number ◂ a_mark (codes "]")) (opt metric)) (size_lexemes n ++ ls) (n, m)
    (of_second (a_mark (codes "[")) (seq (a_number ◂ a_mark (codes "]")) (opt metric)) (mark_lexeme (codes "[") ∷ []) (number_lexeme (decimal n) ∷ mark_lexeme (codes "]") ∷ ls) tt (n, m) (of_mark (codes "[") refl)
    (of_seq (a_number ◂ a_mark (codes "]")) (opt metric) (number_lexeme (decimal n) ∷ mark_lexeme (codes "]") ∷ []) ls n m
    (of_first a_number (a_mark (codes "]")) (number_lexeme (decimal n) ∷ []) (mark_lexeme (codes "]") ∷ []) n tt (of_number n (omega arith)) (of_mark (codes "]") refl)) h))

int8_spelled : (n : ℕ) (m : Metric) → n ≤ 8192 →
    LexemesSpell int8 (word_lexeme (codes "int8") ∷ (size_lexemes n ++ word_lexeme (codes "distance_metric") ∷ mark_lexeme (codes "=") ∷ word_lexeme (metric_text m) ∷ [])) (Int8 n (Some m))
unfolding int8
int8_spelled n m few =
    of_second (a_word (codes "INT8")) (vector (λ k o. Int8 k o)) (word_lexeme (codes "int8") ∷ []) _ tt (Int8 n (Some m)) (of_word (codes "INT8") (codes "int8") refl)
    (vector_spelled (λ k o. Int8 k o) n (Some m) _ few (of_some metric _ m (metric_spelled m)))

bits_spelled : (n : ℕ) → n ≤ 8192 → LexemesSpell bits (word_lexeme (codes "bit") ∷ size_lexemes n) (Bits n None)
unfolding bits
bits_spelled n few =
    of_second (a_word (codes "BIT")) (vector (λ k o. Bits k o)) (word_lexeme (codes "bit") ∷ []) (size_lexemes n) tt (Bits n None) (of_word (codes "BIT") (codes "bit") refl)
    (vector_spelled (λ k o. Bits k o) n None [] few (of_none metric))

-- ---- columns

column_spelled : (word : List ℕ) (p : Part Spelled) (ls : List Lexeme) (s : Spelled) → is_name word ≡ true → LexemesSpell p ls s → LexemesSpell (column p) (word_lexeme word ∷ ls) (args.Column word s)
column_spelled word p ls s n h =
    of_means (λ x. args.Column x.0 x.1) (seq a_name p) (word_lexeme word ∷ ls) (word, s) (of_seq a_name p (word_lexeme word ∷ []) ls word s (name_spelled word n) h)

auxiliary_spelled : (word : List ℕ) (p : Part Spelled) (ls : List Lexeme) (s : Spelled) → is_name word ≡ true → LexemesSpell p ls s →
    LexemesSpell (auxiliary p) (mark_lexeme (codes "+") ∷ word_lexeme word ∷ ls) (args.Column word s)
auxiliary_spelled word p ls s n h =
    of_second (a_mark (codes "+")) (column p) (mark_lexeme (codes "+") ∷ []) (word_lexeme word ∷ ls) tt (args.Column word s) (of_mark (codes "+") refl) (column_spelled word p ls s n h)

integer_key : (p : Part Spelled) (a b : List ℕ) (s : Spelled) → LexemesSpell p (word_lexeme a ∷ word_lexeme b ∷ []) s → LexemesSpell (integer_word ▸ p) (word_lexeme (codes "integer") ∷ word_lexeme a ∷ word_lexeme b ∷ []) s
integer_key p a b s h = of_second integer_word p (word_lexeme (codes "integer") ∷ []) _ tt s integer_spelled h

text_key : (p : Part Spelled) (a b : List ℕ) (s : Spelled) → LexemesSpell p (word_lexeme a ∷ word_lexeme b ∷ []) s → LexemesSpell (text_word ▸ p) (word_lexeme (codes "text") ∷ word_lexeme a ∷ word_lexeme b ∷ []) s
text_key p a b s h = of_second text_word p (word_lexeme (codes "text") ∷ []) _ tt s text_spelled h

-- a column as it is declared is one of the grammar's lines
line_spelled : (word : List ℕ) (kind : Kind) → is_name word ≡ true → is_misfit_int8 kind ≡ false → is_misfit_bits kind ≡ false → LexemesSpell arg (declared_lexemes word kind) (args.Column word (spelled_kind kind))
unfolding arg
line_spelled word IntKey n i b = of_left (column_spelled word (integer_word ▸ primary_key IntKey) _ _ n (integer_key (primary_key IntKey) _ _ _ (primary_spelled IntKey)))
line_spelled word TextKey n i b = of_right (of_left (column_spelled word (text_word ▸ primary_key TextKey) _ _ n (text_key (primary_key TextKey) _ _ _ (primary_spelled TextKey))))
line_spelled word (Int8Vector width m) n i b = of_right (of_right (of_left (column_spelled word int8 _ _ n (int8_spelled width m (width_int8 width m i)))))
line_spelled word (BitVector width) n i b = of_right (of_right (of_right (of_left (column_spelled word bits _ _ n (bits_spelled width (width_bits width b))))))
line_spelled word IntPartition n i b =
    of_right (of_right (of_right (of_right (of_left (column_spelled word (integer_word ▸ partition_key IntPartition) _ _ n (integer_key (partition_key IntPartition) _ _ _ (partition_spelled IntPartition)))))))
line_spelled word TextPartition n i b =
    of_right (of_right (of_right (of_right (of_right (of_left (column_spelled word (text_word ▸ partition_key TextPartition) _ _ n (text_key (partition_key TextPartition) _ _ _ (partition_spelled TextPartition))))))))
line_spelled word IntMeta n i b =
    of_right (of_right (of_right (of_right (of_right (of_right (of_left (column_spelled word (stands_for IntMeta integer_word) _ _ n (kind_spelled IntMeta integer_word _ integer_spelled))))))))
line_spelled word TextMeta n i b =
    of_right (of_right (of_right (of_right (of_right (of_right (of_right (of_left (column_spelled word (stands_for TextMeta text_word) _ _ n (kind_spelled TextMeta text_word _ text_spelled)))))))))
line_spelled word BoolMeta n i b =
    of_right (of_right (of_right (of_right (of_right (of_right (of_right (of_right (of_left (column_spelled word (stands_for BoolMeta boolean_word) _ _ n (kind_spelled BoolMeta boolean_word _ boolean_spelled))))))))))
line_spelled word IntAux n i b =
    of_right (of_right (of_right (of_right (of_right (of_right (of_right (of_right (of_right (of_left (auxiliary_spelled word (stands_for IntAux integer_word) _ _ n (kind_spelled IntAux integer_word _ integer_spelled)))))))))))
line_spelled word TextAux n i b =
    of_right (of_right (of_right (of_right (of_right (of_right (of_right (of_right (of_right (of_right (of_left (auxiliary_spelled word (stands_for TextAux text_word) _ _ n (kind_spelled TextAux text_word _ text_spelled))))))))))))
line_spelled word BlobAux n i b =
    of_right (of_right (of_right (of_right (of_right (of_right (of_right (of_right (of_right (of_right (of_right (of_left (auxiliary_spelled word (stands_for BlobAux blob_word) _ _ n (kind_spelled BlobAux blob_word _ blob_spelled)))))))))))))

-- ---- the whole text

size_spelled : (n : ℕ) → n ≤ 4096 → LexemesSpell arg (size_last n) (args.ChunkSize n)
unfolding arg chunk_size
size_spelled n few =
    let given : LexemesSpell (a_word (codes "CHUNK_SIZE") ▸ a_mark (codes "=") ▸ a_number) (size_last n) n =
    of_second (a_word (codes "CHUNK_SIZE")) (a_mark (codes "=") ▸ a_number) (word_lexeme (codes "chunk_size") ∷ []) (mark_lexeme (codes "=") ∷ number_lexeme (decimal n) ∷ []) tt n (of_word (codes "CHUNK_SIZE") (codes "chunk_size") refl)
    (of_second (a_mark (codes "=")) a_number (mark_lexeme (codes "=") ∷ []) (number_lexeme (decimal n) ∷ []) tt n (of_mark (codes "=") refl) (of_number n (omega arith))) in
    let line : LexemesSpell (means (λ k. args.ChunkSize k) (a_word (codes "CHUNK_SIZE") ▸ a_mark (codes "=") ▸ a_number)) (size_last n) (args.ChunkSize n) =
    of_means (λ k. args.ChunkSize k) (a_word (codes "CHUNK_SIZE") ▸ a_mark (codes "=") ▸ a_number) (size_last n) n given in
    of_right (of_right (of_right (of_right (of_right (of_right (of_right (of_right (of_right (of_right (of_right (of_right line)))))))))))

-- what the columns and the chunk size are to keep
record AreKept (cs : List Column) (n : ℕ) : Type 0 where
  names : list_all (λ c. is_name c.name) cs ≡ true
  bytes : has_some is_misfit_int8 cs ≡ false
  bits : has_some is_misfit_bits cs ≡ false
  size : n ≤ 4096

rest_kept : (c : Column) (cs : List Column) (n : ℕ) → AreKept (c ∷ cs) n → AreKept cs n
rest_kept c cs n kept = record {
  names = (and_parts (is_name c.name) (list_all (λ d. is_name d.name) cs) kept.names).1;
  bytes = (neither (is_misfit_int8 c.kind) (has_some is_misfit_int8 cs) kept.bytes).1;
  bits = (neither (is_misfit_bits c.kind) (has_some is_misfit_bits cs) kept.bits).1;
  size = kept.size;
}

first_spelled : (c : Column) (cs : List Column) (n : ℕ) → AreKept (c ∷ cs) n → LexemesSpell arg (column_lexemes c) (column_part c)
first_spelled c cs n kept =
    line_spelled c.name c.kind (and_parts (is_name c.name) (list_all (λ d. is_name d.name) cs) kept.names).0
    (neither (is_misfit_int8 c.kind) (has_some is_misfit_int8 cs) kept.bytes).0 (neither (is_misfit_bits c.kind) (has_some is_misfit_bits cs) kept.bits).0

abbrev later : Part Arg
later = a_mark (codes ",") ▸ arg

later_spelled : (ls : List Lexeme) (v : Arg) → LexemesSpell arg ls v → LexemesSpell later (mark_lexeme (codes ",") ∷ ls) v
later_spelled ls v h = of_second (a_mark (codes ",")) arg (mark_lexeme (codes ",") ∷ []) ls tt v (of_mark (codes ",") refl) h

-- the lexemes of columns, each with a comma behind it
abbrev flat : List Column → List Lexeme
flat cs = flat_map (λ column. column_lexemes column ++ mark_lexeme (codes ",") ∷ []) cs

flat_more : (c : Column) (cs : List Column) (last : List Lexeme) → flat (c ∷ cs) ++ last ≡ column_lexemes c ++ mark_lexeme (codes ",") ∷ (flat cs ++ last)
flat_more c cs last = append_assoc (column_lexemes c ++ mark_lexeme (codes ",") ∷ []) (flat cs) last ∙ append_assoc (column_lexemes c) (mark_lexeme (codes ",") ∷ []) (flat cs ++ last)

abbrev parts : List Column → ℕ → List Arg
parts cs n = map column_part cs ++ args.ChunkSize n ∷ []

-- the parts behind a comma
many_spelled : (cs : List Column) (n : ℕ) → AreKept cs n → LexemesSpell (many later) (mark_lexeme (codes ",") ∷ (flat cs ++ size_last n)) (parts cs n)
many_spelled [] n kept =
    of_more later (mark_lexeme (codes ",") ∷ size_last n) [] (args.ChunkSize n) [] (later_spelled (size_last n) (args.ChunkSize n) (size_spelled n kept.size)) (of_nothing later)
many_spelled (c ∷ cs) n kept =
    subst (λ (z : List Lexeme). LexemesSpell (many later) (mark_lexeme (codes ",") ∷ z) (parts (c ∷ cs) n)) (sym (flat_more c cs (size_last n)))
    (of_more later (mark_lexeme (codes ",") ∷ column_lexemes c) (mark_lexeme (codes ",") ∷ (flat cs ++ size_last n)) (column_part c) (parts cs n)
    (later_spelled (column_lexemes c) (column_part c) (first_spelled c cs n kept)) (many_spelled cs n (rest_kept c cs n kept)))

columns_spelled : (cs : List Column) (n : ℕ) → AreKept cs n → LexemesSpell columns (flat cs ++ size_last n) (parts cs n)
unfolding columns
columns_spelled [] n kept =
    of_means (λ x. x.0 ∷ x.1) (seq arg (many later)) (size_last n) (args.ChunkSize n, [])
    (of_seq arg (many later) (size_last n) [] (args.ChunkSize n) [] (size_spelled n kept.size) (of_nothing later))
columns_spelled (c ∷ cs) n kept =
    subst (λ (z : List Lexeme). LexemesSpell (means (λ x. x.0 ∷ x.1) (seq arg (many later))) z (parts (c ∷ cs) n)) (sym (flat_more c cs (size_last n)))
    (of_means (λ x. x.0 ∷ x.1) (seq arg (many later)) (column_lexemes c ++ mark_lexeme (codes ",") ∷ (flat cs ++ size_last n)) (column_part c, parts cs n)
    (of_seq arg (many later) (column_lexemes c) (mark_lexeme (codes ",") ∷ (flat cs ++ size_last n)) (column_part c) (parts cs n) (first_spelled c cs n kept) (many_spelled cs n (rest_kept c cs n kept))))

kept_by : (schema : Schema) → IsValidSchema schema → AreKept schema.columns schema.chunk_size
kept_by schema valid =
    let sizes = has_sizes schema valid.rules in
    record { names = valid.names; bytes = sizes.bytes; bits = sizes.bits; size = chunk_few schema.chunk_size sizes.chunk }

-- the canonical lexemes spell the parts of the schema
pub canonical_spelled : (schema : Schema) → IsValidSchema schema → LexemesSpell columns (canonical_lexemes schema) (parts_of schema)
canonical_spelled schema valid = columns_spelled schema.columns schema.chunk_size (kept_by schema valid)

-- ---- the schema of the parts

kind_back : (kind : Kind) → kind_of (spelled_kind kind) ≡ kind
kind_back IntKey = refl
kind_back TextKey = refl
kind_back (Int8Vector width m) = refl
kind_back (BitVector width) = refl
kind_back IntPartition = refl
kind_back TextPartition = refl
kind_back IntMeta = refl
kind_back TextMeta = refl
kind_back BoolMeta = refl
kind_back IntAux = refl
kind_back TextAux = refl
kind_back BlobAux = refl

columns_back : (cs : List Column) (n : ℕ) → columns_of (parts cs n) ≡ cs
columns_back [] n = refl
columns_back (c ∷ cs) n =
    ap (λ (k : Kind). record { name = c.name; kind = k } ∷ columns_of (parts cs n)) (kind_back c.kind) ∙ ap (λ (z : List Column). c ∷ z) (columns_back cs n)

sizes_back : (cs : List Column) (n : ℕ) → sizes_of (parts cs n) ≡ n ∷ []
sizes_back [] n = refl
sizes_back (c ∷ cs) n = sizes_back cs n

pub schema_back : (schema : Schema) → schema_of (parts_of schema) ≡ schema
schema_back schema =
    ap (λ (z : List Column). record { columns = z; chunk_size = first_or 1024 (sizes_of (parts_of schema)) }) (columns_back schema.columns schema.chunk_size)
    ∙ ap (λ (z : List ℕ). record { columns = schema.columns; chunk_size = first_or 1024 z }) (sizes_back schema.columns schema.chunk_size)

no_metric : (name : List ℕ) (kind : Kind) → is_bits_with_metric (args.Column name (spelled_kind kind)) ≡ false
no_metric name IntKey = refl
no_metric name TextKey = refl
no_metric name (Int8Vector width m) = refl
no_metric name (BitVector width) = refl
no_metric name IntPartition = refl
no_metric name TextPartition = refl
no_metric name IntMeta = refl
no_metric name TextMeta = refl
no_metric name BoolMeta = refl
no_metric name IntAux = refl
no_metric name TextAux = refl
no_metric name BlobAux = refl

no_metrics : (cs : List Column) (n : ℕ) → list_any is_bits_with_metric (parts cs n) ≡ false
no_metrics [] n = refl
no_metrics (c ∷ cs) n = ap (λ (b : Bool). b || list_any is_bits_with_metric (parts cs n)) (no_metric c.name c.kind) ∙ no_metrics cs n

one_size : (cs : List Column) (n : ℕ) → count_by is_size (parts cs n) ≡ 1
one_size [] n = refl
one_size (c ∷ cs) n = omega (arith, one_size cs n)

pub no_fault : (schema : Schema) → schema_fault schema ≡ None → text_fault (parts_of schema) ≡ None
no_fault schema h =
    let cs : List Column = schema.columns in
    let n : ℕ = schema.chunk_size in
    ap (λ (s : Schema). least (schema_fault s) (least (rule_where (list_any is_bits_with_metric (parts cs n)) 11) (rule_where (nat_lt 1 (count_by is_size (parts cs n))) 12))) (schema_back schema)
    ∙ ap (λ (b : Bool). least (schema_fault schema) (least (rule_where b 11) (rule_where (nat_lt 1 (count_by is_size (parts cs n))) 12))) (no_metrics cs n)
    ∙ ap (λ (k : ℕ). least (schema_fault schema) (rule_where (nat_lt 1 k) 12)) (one_size cs n)
    ∙ ap (λ (o : Option ℕ). least o None) h

-- ---- the text

canonical_declares : (schema : Schema) → IsValidSchema schema → Declares (canonical_columns schema) schema
canonical_declares schema valid = record {
  within = canonical_short schema valid;
  parts = parts_of schema;
  spelled = (canonical_spelled schema valid).told (tokens (canonical_columns schema) 0) (lexemes_of_canonical schema valid);
  rules = no_fault schema valid.rules;
  declared = sym (schema_back schema);
}

-- a text that is the canonical one declares the schema too
pub text_declares : (text : List ℕ) (schema : Schema) → text ≡ canonical_columns schema → IsValidSchema schema → Declares text schema
text_declares text schema e valid = subst (λ (z : List ℕ). Declares z schema) (sym e) (canonical_declares schema valid)
