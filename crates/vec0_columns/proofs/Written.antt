-- The canonical text of a valid schema has the lexemes that one expects of it.
use Rattle.std.proofs.Common.{◌≡◌, ℕ, zero, suc, drop, ◌≤◌, Bool, true, false, not, ◌&&◌, ◌||◌, List, [], ◌∷◌, ◌++◌, codes, ◌==◌, length, Option, Some, None, refl, sym, ◌∙◌, subst, arith, append_assoc}
use Rattle.std.specs.Prelude.{nat_le, nat_lt, if◌then◌else◌}
use Rattle.std.proofs.lemmas.Bool.{and_parts, and_from, not_from_false}
use Rattle.std.proofs.lemmas.Bool.Decides.{nat_tests}
use Rattle.std.proofs.lemmas.List.{append-nil}
use Rattle.std.specs.Char.{is_ascii_digit}
use Rattle.std.specs.Fmt.{decimal}
use Rattle.std.specs.List.{list_all, flat_map}
use Rattle.row_model.specs.declared.schema.Column.{Column}
use Rattle.row_model.specs.declared.schema.Kind.{Kind}
use Rattle.row_model.specs.declared.schema.Kind.TheVariants.{IntKey, TextKey, Int8Vector, BitVector, IntPartition, TextPartition, IntMeta, TextMeta, BoolMeta, IntAux, TextAux, BlobAux}
use Rattle.row_model.specs.declared.schema.Metric.{Metric}
use Rattle.row_model.specs.declared.schema.Metric.TheVariants.{L1, L2}
use Rattle.row_model.specs.declared.schema.Schema.{Schema}
use Rattle.row_model.specs.CanonicalColumns.{metric_text, declared_text, column_text, canonical_columns}
use Rattle.vec_base.specs.Words.{is_small_letter, is_name_byte, is_small_word, is_name, is_reserved}
use Rattle.row_model.specs.Schemas.{is_key, is_vector, is_partition, is_metadata, is_auxiliary, count_of, has_twins, takes_hidden_name, schema_fault, IsValidSchema, is_misfit_int8, is_misfit_bits, is_misfit_chunk, has_some}
use Rattle.vec_literal.specs.Lexemes.{Lexeme, lexemes, word_lexeme, number_lexeme, mark_lexeme}
use Rattle.vec_literal.specs.inner.Stretches.{is_pair}
use Rattle.vec_literal.specs.Tokens.{is_letter, is_word_byte, is_word_text, is_number_text}
use Rattle.vec_literal.proofs.Decimals.{decimal_number}
use Rattle.vec_literal.proofs.Following.{HasTokens, whole_text, has_nothing, space_before, word_before, number_before, mark_before, ends_word, stops, unpaired}
use Rattle.vec0_columns.specs.inner.CanonicalLexemes.{size_lexemes, declared_lexemes, column_lexemes, canonical_lexemes}

-- ---- names are words

small_letter : (b : ℕ) → is_small_letter b ≡ true → is_letter b ≡ true
small_letter b h = grind (arith, nat_tests)

name_byte : (b : ℕ) → is_name_byte b ≡ true → is_word_byte b ≡ true
name_byte b h = grind (arith, nat_tests)

name_bytes : (bs : List ℕ) → list_all is_name_byte bs ≡ true → list_all is_word_byte bs ≡ true
name_bytes [] h = refl
name_bytes (b ∷ bs) h = let p = and_parts (is_name_byte b) (list_all is_name_byte bs) h in and_from _ _ (name_byte b p.0) (name_bytes bs p.1)

pub small_word : (name : List ℕ) → is_small_word name ≡ true → is_word_text name ≡ true
small_word [] h = absurd cc
small_word (b ∷ bs) h = let p = and_parts (is_small_letter b) (list_all is_name_byte bs) h in and_from _ _ (small_letter b p.0) (name_bytes bs p.1)

-- ---- parts of a column's text

-- a word behind a space
spaced : (word rest : List ℕ) (words : List Lexeme) → is_word_text word ≡ true → ends_word rest ≡ true → HasTokens rest words → HasTokens (32 ∷ (word ++ rest)) (word_lexeme word ∷ words)
spaced word rest words w e h = space_before (word ++ rest) (word_lexeme word ∷ words) (word_before word rest words w e h)

-- the comma and the space behind a column
comma : (more : List ℕ) (words : List Lexeme) → HasTokens more words → HasTokens (44 ∷ 32 ∷ more) (mark_lexeme (codes ",") ∷ words)
comma more words h = mark_before 44 (32 ∷ more) words refl refl (space_before more words h)

-- the last word of a column
last_word : (word more : List ℕ) (words : List Lexeme) → is_word_text word ≡ true → HasTokens more words → HasTokens (32 ∷ (word ++ 44 ∷ 32 ∷ more)) (word_lexeme word ∷ mark_lexeme (codes ",") ∷ words)
last_word word more words w h = spaced word (44 ∷ 32 ∷ more) (mark_lexeme (codes ",") ∷ words) w refl (comma more words h)

-- the last three words of a column
last_words : (a b c more : List ℕ) (words : List Lexeme) → is_word_text a ≡ true → is_word_text b ≡ true → is_word_text c ≡ true → HasTokens more words →
    HasTokens (32 ∷ (a ++ 32 ∷ (b ++ 32 ∷ (c ++ 44 ∷ 32 ∷ more)))) (word_lexeme a ∷ word_lexeme b ∷ word_lexeme c ∷ mark_lexeme (codes ",") ∷ words)
last_words a b c more words f g e h =
    spaced a (32 ∷ (b ++ 32 ∷ (c ++ 44 ∷ 32 ∷ more))) (word_lexeme b ∷ word_lexeme c ∷ mark_lexeme (codes ",") ∷ words) f refl
    (spaced b (32 ∷ (c ++ 44 ∷ 32 ∷ more)) (word_lexeme c ∷ mark_lexeme (codes ",") ∷ words) g refl (last_word c more words e h))

-- the name before its words
named : (name text more : List ℕ) (words : List Lexeme) → is_word_text name ≡ true → ends_word (text ++ 44 ∷ 32 ∷ more) ≡ true → HasTokens (text ++ 44 ∷ 32 ∷ more) words →
    HasTokens ((name ++ text) ++ 44 ∷ 32 ∷ more) (word_lexeme name ∷ words)
named name text more words n e h =
    subst (λ (z : List ℕ). HasTokens z (word_lexeme name ∷ words)) (sym (append_assoc name text (44 ∷ 32 ∷ more))) (word_before name (text ++ 44 ∷ 32 ∷ more) words n e h)

-- `[` and `+` are no marks together with another byte
open_unpaired : (bytes : List ℕ) → unpaired 91 bytes ≡ true
open_unpaired [] = refl
open_unpaired (b ∷ bs) = refl

plus_unpaired : (bytes : List ℕ) → unpaired 43 bytes ≡ true
plus_unpaired [] = refl
plus_unpaired (b ∷ bs) = refl

-- a number in brackets
sized : (n : ℕ) (rest : List ℕ) (words : List Lexeme) → n ≤ 8192 → HasTokens (93 ∷ rest) (mark_lexeme (codes "]") ∷ words) → HasTokens (91 ∷ (decimal n ++ 93 ∷ rest)) (size_lexemes n ++ words)
sized n rest words few h =
    mark_before 91 (decimal n ++ 93 ∷ rest) (number_lexeme (decimal n) ∷ mark_lexeme (codes "]") ∷ words) refl (open_unpaired (decimal n ++ 93 ∷ rest))
    (number_before (decimal n) (93 ∷ rest) (mark_lexeme (codes "]") ∷ words) (decimal_number n (omega arith)) refl h)

-- the metric of a vector
metric_before : (metric : Metric) (more : List ℕ) (words : List Lexeme) → HasTokens more words →
    HasTokens (61 ∷ (metric_text metric ++ 44 ∷ 32 ∷ more)) (mark_lexeme (codes "=") ∷ word_lexeme (metric_text metric) ∷ mark_lexeme (codes ",") ∷ words)
metric_before L1 more words h =
    mark_before 61 (codes "l1, " ++ more) (word_lexeme (codes "l1") ∷ mark_lexeme (codes ",") ∷ words) refl refl (word_before (codes "l1") (44 ∷ 32 ∷ more) (mark_lexeme (codes ",") ∷ words) refl refl (comma more words h))
metric_before L2 more words h =
    mark_before 61 (codes "l2, " ++ more) (word_lexeme (codes "l2") ∷ mark_lexeme (codes ",") ∷ words) refl refl (word_before (codes "l2") (44 ∷ 32 ∷ more) (mark_lexeme (codes ",") ∷ words) refl refl (comma more words h))

-- what stands behind the number of a vector of bytes
abbrev metric_lexemes : Metric → List Lexeme → List Lexeme
metric_lexemes metric words = word_lexeme (codes "distance_metric") ∷ mark_lexeme (codes "=") ∷ word_lexeme (metric_text metric) ∷ mark_lexeme (codes ",") ∷ words

with_metric : (metric : Metric) (more : List ℕ) (words : List Lexeme) → HasTokens more words →
    HasTokens (93 ∷ 32 ∷ (codes "distance_metric" ++ 61 ∷ (metric_text metric ++ 44 ∷ 32 ∷ more))) (mark_lexeme (codes "]") ∷ metric_lexemes metric words)
with_metric metric more words h =
    let tail : List ℕ = 61 ∷ (metric_text metric ++ 44 ∷ 32 ∷ more) in
    mark_before 93 (32 ∷ (codes "distance_metric" ++ tail)) (metric_lexemes metric words) refl refl
    (spaced (codes "distance_metric") tail (mark_lexeme (codes "=") ∷ word_lexeme (metric_text metric) ∷ mark_lexeme (codes ",") ∷ words) refl refl (metric_before metric more words h))

-- ---- columns

pub width_int8 : (width : ℕ) (metric : Metric) → is_misfit_int8 (Int8Vector width metric) ≡ false → width ≤ 8192
width_int8 width metric h = grind (arith, nat_tests)

pub width_bits : (width : ℕ) → is_misfit_bits (BitVector width) ≡ false → width ≤ 8192
width_bits width h = grind (arith, nat_tests)

-- parts that are put behind each other one by one, and the first one before all others
three_behind : (a b c d : List ℕ) → a ++ b ++ c ++ d ≡ a ++ (b ++ (c ++ d))
three_behind a b c d = append_assoc (a ++ b) c d ∙ append_assoc a b (c ++ d)

four_behind : (a b c d e : List ℕ) → a ++ b ++ c ++ d ++ e ≡ a ++ (b ++ (c ++ (d ++ e)))
four_behind a b c d e = append_assoc (a ++ b ++ c) d e ∙ three_behind a b c (d ++ e)

int8_before : (name : List ℕ) (width : ℕ) (metric : Metric) (more : List ℕ) (words : List Lexeme) → is_word_text name ≡ true → width ≤ 8192 → HasTokens more words →
    HasTokens (declared_text name (Int8Vector width metric) ++ 44 ∷ 32 ∷ more) (declared_lexemes name (Int8Vector width metric) ++ mark_lexeme (codes ",") ∷ words)
int8_before name width metric more words n few h =
    let end : List ℕ = codes "] distance_metric=" ++ metric_text metric in
    let text : List ℕ = codes " int8[" ++ (decimal width ++ end) in
    let all : List Lexeme = declared_lexemes name (Int8Vector width metric) ++ mark_lexeme (codes ",") ∷ words in
    subst (λ (z : List ℕ). HasTokens (z ++ 44 ∷ 32 ∷ more) all) (sym (four_behind name (codes " int8[") (decimal width) (codes "] distance_metric=") (metric_text metric)))
    (named name text more (word_lexeme (codes "int8") ∷ (size_lexemes width ++ metric_lexemes metric words)) n refl
    (spaced (codes "int8") (91 ∷ ((decimal width ++ end) ++ 44 ∷ 32 ∷ more)) (size_lexemes width ++ metric_lexemes metric words) refl refl
    (subst (λ (z : List ℕ). HasTokens (91 ∷ z) (size_lexemes width ++ metric_lexemes metric words)) (sym (append_assoc (decimal width) end (44 ∷ 32 ∷ more)))
    (sized width (32 ∷ (codes "distance_metric" ++ 61 ∷ (metric_text metric ++ 44 ∷ 32 ∷ more))) (metric_lexemes metric words) few (with_metric metric more words h)))))

bits_before : (name : List ℕ) (width : ℕ) (more : List ℕ) (words : List Lexeme) → is_word_text name ≡ true → width ≤ 8192 → HasTokens more words →
    HasTokens (declared_text name (BitVector width) ++ 44 ∷ 32 ∷ more) (declared_lexemes name (BitVector width) ++ mark_lexeme (codes ",") ∷ words)
bits_before name width more words n few h =
    let end : List ℕ = codes "]" in
    let others : List Lexeme = mark_lexeme (codes ",") ∷ words in
    let all : List Lexeme = declared_lexemes name (BitVector width) ++ others in
    subst (λ (z : List ℕ). HasTokens (z ++ 44 ∷ 32 ∷ more) all) (sym (three_behind name (codes " bit[") (decimal width) end))
    (named name (codes " bit[" ++ (decimal width ++ end)) more (word_lexeme (codes "bit") ∷ (size_lexemes width ++ others)) n refl
    (spaced (codes "bit") (91 ∷ ((decimal width ++ end) ++ 44 ∷ 32 ∷ more)) (size_lexemes width ++ others) refl refl
    (subst (λ (z : List ℕ). HasTokens (91 ∷ z) (size_lexemes width ++ others)) (sym (append_assoc (decimal width) end (44 ∷ 32 ∷ more)))
    (sized width (44 ∷ 32 ∷ more) others few (mark_before 93 (44 ∷ 32 ∷ more) others refl refl (comma more words h))))))

-- an auxiliary column
auxiliary_before : (name word more : List ℕ) (words : List Lexeme) → is_word_text name ≡ true → is_word_text word ≡ true → HasTokens more words →
    HasTokens (43 ∷ ((name ++ 32 ∷ word) ++ 44 ∷ 32 ∷ more)) (mark_lexeme (codes "+") ∷ word_lexeme name ∷ word_lexeme word ∷ mark_lexeme (codes ",") ∷ words)
auxiliary_before name word more words n w h =
    mark_before 43 ((name ++ 32 ∷ word) ++ 44 ∷ 32 ∷ more) (word_lexeme name ∷ word_lexeme word ∷ mark_lexeme (codes ",") ∷ words) refl (plus_unpaired ((name ++ 32 ∷ word) ++ 44 ∷ 32 ∷ more))
    (named name (32 ∷ word) more (word_lexeme word ∷ mark_lexeme (codes ",") ∷ words) n refl (last_word word more words w h))

declared_before : (name : List ℕ) (kind : Kind) (more : List ℕ) (words : List Lexeme) → is_word_text name ≡ true → is_misfit_int8 kind ≡ false → is_misfit_bits kind ≡ false → HasTokens more words →
    HasTokens (declared_text name kind ++ 44 ∷ 32 ∷ more) (declared_lexemes name kind ++ mark_lexeme (codes ",") ∷ words)
declared_before name IntKey more words n i b h = named name (codes " integer primary key") more _ n refl (last_words (codes "integer") (codes "primary") (codes "key") more words refl refl refl h)
declared_before name TextKey more words n i b h = named name (codes " text primary key") more _ n refl (last_words (codes "text") (codes "primary") (codes "key") more words refl refl refl h)
declared_before name (Int8Vector width metric) more words n i b h = int8_before name width metric more words n (width_int8 width metric i) h
declared_before name (BitVector width) more words n i b h = bits_before name width more words n (width_bits width b) h
declared_before name IntPartition more words n i b h = named name (codes " integer partition key") more _ n refl (last_words (codes "integer") (codes "partition") (codes "key") more words refl refl refl h)
declared_before name TextPartition more words n i b h = named name (codes " text partition key") more _ n refl (last_words (codes "text") (codes "partition") (codes "key") more words refl refl refl h)
declared_before name IntMeta more words n i b h = named name (codes " integer") more _ n refl (last_word (codes "integer") more words refl h)
declared_before name TextMeta more words n i b h = named name (codes " text") more _ n refl (last_word (codes "text") more words refl h)
declared_before name BoolMeta more words n i b h = named name (codes " boolean") more _ n refl (last_word (codes "boolean") more words refl h)
declared_before name IntAux more words n i b h = auxiliary_before name (codes "integer") more words n refl h
declared_before name TextAux more words n i b h = auxiliary_before name (codes "text") more words n refl h
declared_before name BlobAux more words n i b h = auxiliary_before name (codes "blob") more words n refl h

-- neither of two tests holds
pub neither : (x y : Bool) → (x || y) ≡ false → (x ≡ false) × (y ≡ false)
neither true y h = absurd cc
neither false y h = (refl, h)

-- a list in three parts before a fourth
parted : {A : Type 0} (a b c d : List A) → ((a ++ b) ++ c) ++ d ≡ a ++ (b ++ (c ++ d))
parted a b c d = append_assoc (a ++ b) c d ∙ append_assoc a b (c ++ d)

columns_before : (columns : List Column) (tail : List ℕ) (words : List Lexeme) → list_all (λ column. is_name column.name) columns ≡ true →
    has_some is_misfit_int8 columns ≡ false → has_some is_misfit_bits columns ≡ false → HasTokens tail words →
    HasTokens (flat_map (λ column. column_text column ++ codes ", ") columns ++ tail) (flat_map (λ column. column_lexemes column ++ mark_lexeme (codes ",") ∷ []) columns ++ words)
columns_before [] tail words n i b h = h
columns_before (c ∷ cs) tail words n i b h =
    let F : List ℕ = flat_map (λ column. column_text column ++ codes ", ") cs in
    let G : List Lexeme = flat_map (λ column. column_lexemes column ++ mark_lexeme (codes ",") ∷ []) cs in
    let names = and_parts (is_name c.name) (list_all (λ column. is_name column.name) cs) n in
    let name = and_parts (is_small_word c.name && nat_le (length c.name) 64) (not (is_reserved c.name)) names.0 in
    let word = and_parts (is_small_word c.name) (nat_le (length c.name) 64) name.0 in
    let bytes = neither (is_misfit_int8 c.kind) (has_some is_misfit_int8 cs) i in
    let bits = neither (is_misfit_bits c.kind) (has_some is_misfit_bits cs) b in
    let rest : HasTokens (F ++ tail) (G ++ words) = columns_before cs tail words names.1 bytes.1 bits.1 h in
    let first : HasTokens (column_text c ++ 44 ∷ 32 ∷ (F ++ tail)) (column_lexemes c ++ mark_lexeme (codes ",") ∷ (G ++ words)) =
    declared_before c.name c.kind (F ++ tail) (G ++ words) (small_word c.name word.0) bytes.0 bits.0 rest in
    subst (λ (z : List ℕ). HasTokens z (((column_lexemes c ++ mark_lexeme (codes ",") ∷ []) ++ G) ++ words)) (sym (parted (column_text c) (codes ", ") F tail))
    (subst (λ (z : List Lexeme). HasTokens (column_text c ++ 44 ∷ 32 ∷ (F ++ tail)) z) (sym (parted (column_lexemes c) (mark_lexeme (codes ",") ∷ []) G words)) first)

-- ---- the chunk size

equals_digit : (d : ℕ) → is_ascii_digit d ≡ true → is_pair 61 d ≡ false
equals_digit d h = grind (arith, nat_tests)

equals_number : (digits rest : List ℕ) → is_number_text digits ≡ true → unpaired 61 (digits ++ rest) ≡ true
equals_number [] rest h = absurd cc
equals_number (d ∷ ds) rest h = not_from_false (is_pair 61 d) (equals_digit d (and_parts (is_ascii_digit d) (list_all is_ascii_digit ds) h).0)

-- the lexemes of the chunk size
abbrev pub size_last : ℕ → List Lexeme
size_last size = word_lexeme (codes "chunk_size") ∷ mark_lexeme (codes "=") ∷ number_lexeme (decimal size) ∷ []

chunk_size_before : (size : ℕ) (rest : List ℕ) (words : List Lexeme) → size ≤ 4096 → stops is_ascii_digit rest ≡ true → HasTokens rest words → HasTokens ((codes "chunk_size=" ++ decimal size) ++ rest) (size_last size ++ words)
chunk_size_before size rest words few e h =
    let spelled : is_number_text (decimal size) ≡ true = decimal_number size (omega arith) in
    word_before (codes "chunk_size") (61 ∷ (decimal size ++ rest)) (mark_lexeme (codes "=") ∷ number_lexeme (decimal size) ∷ words) refl refl
    (mark_before 61 (decimal size ++ rest) (number_lexeme (decimal size) ∷ words) refl (equals_number (decimal size) rest spelled) (number_before (decimal size) rest words spelled e h))

-- ---- the whole text

-- tests of rules and their numbers: the first that holds
abbrev pub first_broken : List (Bool × ℕ) → Option ℕ
first_broken [] = None
first_broken (x ∷ xs) = if x.0 then Some x.1 else first_broken xs

-- where none holds, the first does not
pub head_kept : (test : Bool) (rule : ℕ) (xs : List (Bool × ℕ)) → first_broken ((test, rule) ∷ xs) ≡ None → test ≡ false
head_kept true rule xs h = absurd cc
head_kept false rule xs h = refl

-- nor one of the others
pub others_kept : (n : ℕ) (xs : List (Bool × ℕ)) → first_broken xs ≡ None → first_broken (drop n xs) ≡ None
others_kept zero xs h = h
others_kept (suc n) [] h = refl
others_kept (suc n) ((true, rule) ∷ xs) h = absurd cc
others_kept (suc n) ((false, rule) ∷ xs) h = others_kept n xs h

-- what a schema without a fault keeps of the sizes
pub record HasSizes (schema : Schema) : Type 0 where
  pub bytes : has_some is_misfit_int8 schema.columns ≡ false
  pub bits : has_some is_misfit_bits schema.columns ≡ false
  pub chunk : is_misfit_chunk schema.chunk_size ≡ false

-- the tests in the order of the rules
abbrev pub tests_of : Schema → List (Bool × ℕ)
tests_of schema =
    (count_of is_vector schema.columns == 0, 1) ∷ (nat_lt 16 (count_of is_vector schema.columns), 2) ∷ (nat_lt 4 (count_of is_partition schema.columns), 3) ∷
    (nat_lt 16 (count_of is_metadata schema.columns), 4) ∷ (nat_lt 16 (count_of is_auxiliary schema.columns), 5) ∷ (nat_lt 1 (count_of is_key schema.columns), 6) ∷
    (has_twins schema.columns, 7) ∷ (takes_hidden_name schema.columns, 8) ∷ (has_some is_misfit_int8 schema.columns, 9) ∷ (has_some is_misfit_bits schema.columns, 10) ∷
    (is_misfit_chunk schema.chunk_size, 12) ∷ []

pub has_sizes : (schema : Schema) → schema_fault schema ≡ None → HasSizes schema
has_sizes schema h = record {
  bytes = head_kept (has_some is_misfit_int8 schema.columns) 9 (drop 9 (tests_of schema)) (others_kept 8 (tests_of schema) h);
  bits = head_kept (has_some is_misfit_bits schema.columns) 10 (drop 10 (tests_of schema)) (others_kept 9 (tests_of schema) h);
  chunk = head_kept (is_misfit_chunk schema.chunk_size) 12 [] (others_kept 10 (tests_of schema) h);
}

pub chunk_few : (size : ℕ) → is_misfit_chunk size ≡ false → size ≤ 4096
chunk_few size h = grind (arith, nat_tests)

-- the canonical text in front of some bytes
pub canonical_before : (schema : Schema) (rest : List ℕ) (words : List Lexeme) → IsValidSchema schema → stops is_ascii_digit rest ≡ true → HasTokens rest words → HasTokens (canonical_columns schema ++ rest) (canonical_lexemes schema ++ words)
canonical_before schema rest words valid e h =
    let sizes = has_sizes schema valid.rules in
    let columns : List ℕ = flat_map (λ column. column_text column ++ codes ", ") schema.columns in
    let words_first : List Lexeme = flat_map (λ column. column_lexemes column ++ mark_lexeme (codes ",") ∷ []) schema.columns in
    let last : List ℕ = codes "chunk_size=" ++ decimal schema.chunk_size in
    let text : HasTokens (columns ++ (last ++ rest)) (words_first ++ (size_last schema.chunk_size ++ words)) =
    columns_before schema.columns (last ++ rest) (size_last schema.chunk_size ++ words) valid.names sizes.bytes sizes.bits
    (chunk_size_before schema.chunk_size rest words (chunk_few schema.chunk_size sizes.chunk) e h) in
    subst (λ (z : List ℕ). HasTokens z (canonical_lexemes schema ++ words)) (sym (append_assoc (columns ++ codes "chunk_size=") (decimal schema.chunk_size) rest ∙ append_assoc columns (codes "chunk_size=") (decimal schema.chunk_size ++ rest)))
    (subst (λ (z : List Lexeme). HasTokens (columns ++ (last ++ rest)) z) (sym (append_assoc words_first (size_last schema.chunk_size) words)) text)

pub lexemes_of_canonical : (schema : Schema) → IsValidSchema schema → lexemes (canonical_columns schema) ≡ canonical_lexemes schema
lexemes_of_canonical schema valid =
    whole_text (canonical_columns schema) (canonical_lexemes schema)
    (subst (λ (z : List ℕ). HasTokens z (canonical_lexemes schema)) (append-nil (canonical_columns schema))
    (subst (λ (z : List Lexeme). HasTokens (canonical_columns schema ++ []) z) (append-nil (canonical_lexemes schema)) (canonical_before schema [] [] valid refl has_nothing)))
