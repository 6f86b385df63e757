-- No rule of schemas tells a number that 16 bits do not hold from the greatest that they hold.
use Rattle.std.proofs.Common.{subst, ◌≡◌, ℕ, ◌+◌, ◌<◌, ◌≤◌, nat_le, nat_lt, Bool, true, false, not, ◌||◌, ◌&&◌, cond, inl, inr, List, [], ◌∷◌, map, Option, Some, None, Result, Ok, Err, refl, sym, ◌∙◌, ap, arith, bytes_eq}
use Rattle.std.specs.Prelude.{if◌then◌else◌, ◌==◌}
use Rattle.std.specs.List.{list_all, list_any, count_by}
use Rattle.std.proofs.lemmas.Bool.{and_from, and_parts, and_right, or_parts, cond-true, cond-false, lt-leb, le-leb, cases_lt}
use Rattle.std.proofs.lemmas.Bool.Decides.{nat_tests}
use Rattle.std.proofs.lemmas.List.Sums.{sum_by-cons}
use Rattle.vec_base.specs.declared.refusal.Refusal.{Refusal}
use Rattle.vec_base.specs.declared.refusal.Refusal.TheVariants as refusals
use Rattle.row_model.specs.declared.schema.Column.{Column}
use Rattle.row_model.specs.declared.schema.Kind.{Kind}
use Rattle.row_model.specs.declared.schema.Schema.{Schema}
use Rattle.row_model.specs.Schemas.{is_key, is_vector, is_partition, is_metadata, is_auxiliary, count_of, has_some, has_column, has_twins, is_hidden_name, takes_hidden_name, is_eights, is_misfit_int8, is_misfit_bits, is_misfit_chunk, schema_fault, IsValidSchema}
use Rattle.vec_base.specs.Words.{is_name}
use Rattle.vec0_columns.specs.declared.text.Spelled.{Spelled}
use Rattle.vec0_columns.specs.declared.text.Spelled.TheVariants.{Int8, Bits, Plain}
use Rattle.vec0_columns.specs.declared.text.Arg.{Arg}
use Rattle.vec0_columns.specs.declared.text.Arg.TheVariants as args
use Rattle.vec0_columns.specs.ColumnGrammar.{has_name, kind_of, columns_of, sizes_of, first_or, schema_of, is_bits_with_metric, is_size, rule_where, least, text_fault}
use Rattle.vec0_columns.specs.ColumnReading.{answer_by, answer_of}
use Rattle.vec_base.specs.Answers.{Gives}
use Rattle.vec0_columns.specs.inner.NarrowedNumbers.{narrow, narrow_spelled, narrow_arg}

narrow_small : (n : ℕ) → n ≤ 65535 → narrow n ≡ n
narrow_small n l = cond-true (nat_le n 65535) n 65535 (le-leb n 65535 l)

narrow_large : (n : ℕ) → 65535 < n → narrow n ≡ 65535
narrow_large n l = cond-false (nat_le n 65535) n 65535 (lt-leb n 65535 l)

-- a test that is the same for all greater numbers
narrow_test : (test : ℕ → Bool) → ((n : ℕ) → 65535 < n → test n ≡ test 65535) → (n : ℕ) → test (narrow n) ≡ test n
narrow_test test large n = elim (cases_lt n 65536) [
  | inl l ↦ ap test (narrow_small n (omega (arith, l)))
  | inr l ↦ ap test (narrow_large n (omega (arith, l))) ∙ sym (large n (omega (arith, l)))
]

no_eights : (n most : ℕ) → most < n → is_eights most n ≡ false
no_eights n most l = and_right _ _ (lt-leb n most l)

int8_large : (n : ℕ) → 65535 < n → not (nat_le 1 n && nat_le n 8192) ≡ not (nat_le 1 65535 && nat_le 65535 8192)
int8_large n l = ap not (and_right (nat_le 1 n) (nat_le n 8192) (lt-leb n 8192 (omega (arith, l))))

bits_large : (n : ℕ) → 65535 < n → not (is_eights 8192 n) ≡ not (is_eights 8192 65535)
bits_large n l = ap not (no_eights n 8192 (omega (arith, l)))

chunk_large : (n : ℕ) → 65535 < n → is_misfit_chunk n ≡ is_misfit_chunk 65535
chunk_large n l = ap not (no_eights n 4096 (omega (arith, l)))

int8_narrow : (s : Spelled) → is_misfit_int8 (kind_of (narrow_spelled s)) ≡ is_misfit_int8 (kind_of s)
int8_narrow (Int8 n m) = narrow_test (λ k. not (nat_le 1 k && nat_le k 8192)) int8_large n
int8_narrow (Bits n m) = refl
int8_narrow (Plain k) = refl

bits_narrow : (s : Spelled) → is_misfit_bits (kind_of (narrow_spelled s)) ≡ is_misfit_bits (kind_of s)
bits_narrow (Int8 n m) = refl
bits_narrow (Bits n m) = narrow_test (λ k. not (is_eights 8192 k)) bits_large n
bits_narrow (Plain k) = refl

-- a test of kinds that does not look at numbers
abbrev Blind : (Kind → Bool) → Type 0
Blind test = (s : Spelled) → test (kind_of (narrow_spelled s)) ≡ test (kind_of s)

vector_blind : Blind is_vector
vector_blind (Int8 n m) = refl
vector_blind (Bits n m) = refl
vector_blind (Plain k) = refl

key_blind : Blind is_key
key_blind (Int8 n m) = refl
key_blind (Bits n m) = refl
key_blind (Plain k) = refl

partition_blind : Blind is_partition
partition_blind (Int8 n m) = refl
partition_blind (Bits n m) = refl
partition_blind (Plain k) = refl

metadata_blind : Blind is_metadata
metadata_blind (Int8 n m) = refl
metadata_blind (Bits n m) = refl
metadata_blind (Plain k) = refl

auxiliary_blind : Blind is_auxiliary
auxiliary_blind (Int8 n m) = refl
auxiliary_blind (Bits n m) = refl
auxiliary_blind (Plain k) = refl

abbrev narrowed : List Arg → List Column
narrowed parts = columns_of (map narrow_arg parts)

count_narrow : (test : Kind → Bool) → Blind test → (parts : List Arg) → count_of test (narrowed parts) ≡ count_of test (columns_of parts)
count_narrow test b [] = refl
count_narrow test b (args.Column name s ∷ parts) =
    let one : Column → ℕ = λ c. cond (test c.kind) 1 0 in
    sum_by-cons one (record { name = name; kind = kind_of (narrow_spelled s) }) (narrowed parts) ∙
    (ap (λ (z : Bool). cond z 1 0 + count_of test (narrowed parts)) (b s) ∙ ap (λ (z : ℕ). cond (test (kind_of s)) 1 0 + z) (count_narrow test b parts)) ∙
    sym (sum_by-cons one (record { name = name; kind = kind_of s }) (columns_of parts))
count_narrow test b (args.ChunkSize n ∷ parts) = count_narrow test b parts

some_narrow : (test : Kind → Bool) → Blind test → (parts : List Arg) → has_some test (narrowed parts) ≡ has_some test (columns_of parts)
some_narrow test b [] = refl
some_narrow test b (args.Column name s ∷ parts) =
    ap (λ (z : Bool). z || has_some test (narrowed parts)) (b s) ∙ ap (λ (z : Bool). test (kind_of s) || z) (some_narrow test b parts)
some_narrow test b (args.ChunkSize n ∷ parts) = some_narrow test b parts

-- names are kept

names_narrow : (test : List ℕ → Bool) (parts : List Arg) → list_any (λ (c : Column). test c.name) (narrowed parts) ≡ list_any (λ (c : Column). test c.name) (columns_of parts)
names_narrow test [] = refl
names_narrow test (args.Column name s ∷ parts) = ap (λ (z : Bool). test name || z) (names_narrow test parts)
names_narrow test (args.ChunkSize n ∷ parts) = names_narrow test parts

twins_narrow : (parts : List Arg) → has_twins (narrowed parts) ≡ has_twins (columns_of parts)
twins_narrow [] = refl
twins_narrow (args.Column name s ∷ parts) =
    ap (λ (z : Bool). z || has_twins (narrowed parts)) (names_narrow (λ other. bytes_eq other name) parts) ∙ ap (λ (z : Bool). has_column name (columns_of parts) || z) (twins_narrow parts)
twins_narrow (args.ChunkSize n ∷ parts) = twins_narrow parts

size_narrow : (parts : List Arg) → first_or 1024 (sizes_of (map narrow_arg parts)) ≡ narrow (first_or 1024 (sizes_of parts))
size_narrow [] = refl
size_narrow (args.Column name s ∷ parts) = size_narrow parts
size_narrow (args.ChunkSize n ∷ parts) = refl

-- the rules, of the numbers and tests that they speak of
abbrev fault_by : ℕ → ℕ → ℕ → ℕ → ℕ → Bool → Bool → Bool → Bool → Bool → Option ℕ
fault_by vectors partitions metadata auxiliaries keys twins hidden int8 bits chunk =
    if vectors == 0 then Some 1
    else if nat_lt 16 vectors then Some 2
    else if nat_lt 4 partitions then Some 3
    else if nat_lt 16 metadata then Some 4
    else if nat_lt 16 auxiliaries then Some 5
    else if nat_lt 1 keys then Some 6
    else if twins then Some 7
    else if hidden then Some 8
    else if int8 then Some 9
    else if bits then Some 10
    else if chunk then Some 12
    else None

pub narrow_fault : (parts : List Arg) → schema_fault (schema_of (map narrow_arg parts)) ≡ schema_fault (schema_of parts)
narrow_fault parts =
    let cs = columns_of parts in
    let ns = narrowed parts in
    let size = first_or 1024 (sizes_of parts) in
    let misfit : is_misfit_chunk (first_or 1024 (sizes_of (map narrow_arg parts))) ≡ is_misfit_chunk size = ap (λ (z : ℕ). is_misfit_chunk z) (size_narrow parts) ∙ narrow_test (λ n. is_misfit_chunk n) chunk_large size in
    ap (λ (z : ℕ). fault_by z (count_of is_partition ns) (count_of is_metadata ns) (count_of is_auxiliary ns) (count_of is_key ns) (has_twins ns) (takes_hidden_name ns) (has_some is_misfit_int8 ns) (has_some is_misfit_bits ns) (is_misfit_chunk (first_or 1024 (sizes_of (map narrow_arg parts))))) (count_narrow is_vector vector_blind parts) ∙
    (ap (λ (z : ℕ). fault_by (count_of is_vector cs) z (count_of is_metadata ns) (count_of is_auxiliary ns) (count_of is_key ns) (has_twins ns) (takes_hidden_name ns) (has_some is_misfit_int8 ns) (has_some is_misfit_bits ns) (is_misfit_chunk (first_or 1024 (sizes_of (map narrow_arg parts))))) (count_narrow is_partition partition_blind parts) ∙
    (ap (λ (z : ℕ). fault_by (count_of is_vector cs) (count_of is_partition cs) z (count_of is_auxiliary ns) (count_of is_key ns) (has_twins ns) (takes_hidden_name ns) (has_some is_misfit_int8 ns) (has_some is_misfit_bits ns) (is_misfit_chunk (first_or 1024 (sizes_of (map narrow_arg parts))))) (count_narrow is_metadata metadata_blind parts) ∙
    (ap (λ (z : ℕ). fault_by (count_of is_vector cs) (count_of is_partition cs) (count_of is_metadata cs) z (count_of is_key ns) (has_twins ns) (takes_hidden_name ns) (has_some is_misfit_int8 ns) (has_some is_misfit_bits ns) (is_misfit_chunk (first_or 1024 (sizes_of (map narrow_arg parts))))) (count_narrow is_auxiliary auxiliary_blind parts) ∙
    (ap (λ (z : ℕ). fault_by (count_of is_vector cs) (count_of is_partition cs) (count_of is_metadata cs) (count_of is_auxiliary cs) z (has_twins ns) (takes_hidden_name ns) (has_some is_misfit_int8 ns) (has_some is_misfit_bits ns) (is_misfit_chunk (first_or 1024 (sizes_of (map narrow_arg parts))))) (count_narrow is_key key_blind parts) ∙
    (ap (λ (z : Bool). fault_by (count_of is_vector cs) (count_of is_partition cs) (count_of is_metadata cs) (count_of is_auxiliary cs) (count_of is_key cs) z (takes_hidden_name ns) (has_some is_misfit_int8 ns) (has_some is_misfit_bits ns) (is_misfit_chunk (first_or 1024 (sizes_of (map narrow_arg parts))))) (twins_narrow parts) ∙
    (ap (λ (z : Bool). fault_by (count_of is_vector cs) (count_of is_partition cs) (count_of is_metadata cs) (count_of is_auxiliary cs) (count_of is_key cs) (has_twins cs) z (has_some is_misfit_int8 ns) (has_some is_misfit_bits ns) (is_misfit_chunk (first_or 1024 (sizes_of (map narrow_arg parts))))) (names_narrow is_hidden_name parts) ∙
    (ap (λ (z : Bool). fault_by (count_of is_vector cs) (count_of is_partition cs) (count_of is_metadata cs) (count_of is_auxiliary cs) (count_of is_key cs) (has_twins cs) (takes_hidden_name cs) z (has_some is_misfit_bits ns) (is_misfit_chunk (first_or 1024 (sizes_of (map narrow_arg parts))))) (some_narrow is_misfit_int8 int8_narrow parts) ∙
    (ap (λ (z : Bool). fault_by (count_of is_vector cs) (count_of is_partition cs) (count_of is_metadata cs) (count_of is_auxiliary cs) (count_of is_key cs) (has_twins cs) (takes_hidden_name cs) (has_some is_misfit_int8 cs) z (is_misfit_chunk (first_or 1024 (sizes_of (map narrow_arg parts))))) (some_narrow is_misfit_bits bits_narrow parts) ∙
    ap (λ (z : Bool). fault_by (count_of is_vector cs) (count_of is_partition cs) (count_of is_metadata cs) (count_of is_auxiliary cs) (count_of is_key cs) (has_twins cs) (takes_hidden_name cs) (has_some is_misfit_int8 cs) (has_some is_misfit_bits cs) z) misfit))))))))

-- where no rule is broken, all numbers are small

if_none : (b : Bool) (n : ℕ) (r : Option ℕ) → (if b then Some n else r) ≡ None → (b ≡ false) × (r ≡ None)
if_none true n r h = absurd cc
if_none false n r h = (refl, h)

abbrev Sizes : List Column → ℕ → Type 0
Sizes cs n = (has_some is_misfit_int8 cs ≡ false) × (has_some is_misfit_bits cs ≡ false) × (is_misfit_chunk n ≡ false)

sizes_fit : (cs : List Column) (n : ℕ) → schema_fault (record { columns = cs; chunk_size = n }) ≡ None → Sizes cs n
sizes_fit cs n h =
    let a1 = if_none _ 1 _ h in let a2 = if_none _ 2 _ a1.1 in let a3 = if_none _ 3 _ a2.1 in let a4 = if_none _ 4 _ a3.1 in
    let a5 = if_none _ 5 _ a4.1 in let a6 = if_none _ 6 _ a5.1 in let a7 = if_none _ 7 _ a6.1 in let a8 = if_none _ 8 _ a7.1 in
    let a9 = if_none _ 9 _ a8.1 in let a10 = if_none _ 10 _ a9.1 in let a12 = if_none _ 12 _ a10.1 in
    (a9.0, a10.0, a12.0)

fits_most : (n most : ℕ) → most ≤ 65535 → nat_le n most ≡ true → narrow n ≡ n
fits_most n most l h = narrow_small n (let k : n ≤ most = grind (arith, nat_tests, h) in omega (arith, k, l))

unnot : (b : Bool) → not b ≡ false → b ≡ true
unnot true h = refl
unnot false h = absurd cc

kind_fits : (s : Spelled) → is_misfit_int8 (kind_of s) ≡ false → is_misfit_bits (kind_of s) ≡ false → kind_of (narrow_spelled s) ≡ kind_of s
kind_fits (Int8 n m) h k = ap (λ (z : ℕ). kind_of (Int8 z m)) (fits_most n 8192 (omega arith) (and_parts _ _ (unnot _ h)).1)
kind_fits (Bits n m) h k = ap (λ (z : ℕ). kind_of (Bits z m)) (fits_most n 8192 (omega arith) (and_parts _ _ (unnot _ k)).1)
kind_fits (Plain kind) h k = refl

columns_fit : (parts : List Arg) → has_some is_misfit_int8 (columns_of parts) ≡ false → has_some is_misfit_bits (columns_of parts) ≡ false → narrowed parts ≡ columns_of parts
columns_fit [] h k = refl
columns_fit (args.Column name s ∷ parts) h k =
    let a = or_parts _ _ h in let b = or_parts _ _ k in
    ap (λ (z : Kind). (let c : Column = record { name = name; kind = z } in c ∷ narrowed parts)) (kind_fits s a.0 b.0) ∙
    ap (λ (z : List Column). (let c : Column = record { name = name; kind = kind_of s } in c ∷ z)) (columns_fit parts a.1 b.1)
columns_fit (args.ChunkSize n ∷ parts) h k = columns_fit parts h k

pub narrow_same : (parts : List Arg) → schema_fault (schema_of parts) ≡ None → schema_of (map narrow_arg parts) ≡ schema_of parts
narrow_same parts h =
    let s = sizes_fit (columns_of parts) (first_or 1024 (sizes_of parts)) h in
    let size : first_or 1024 (sizes_of (map narrow_arg parts)) ≡ first_or 1024 (sizes_of parts) = size_narrow parts ∙ fits_most (first_or 1024 (sizes_of parts)) 4096 (omega arith) (and_parts _ _ (unnot _ s.2)).1 in
    ap (λ (z : List Column). (let q : Schema = record { columns = z; chunk_size = first_or 1024 (sizes_of (map narrow_arg parts)) } in q)) (columns_fit parts s.0 s.1) ∙
    ap (λ (z : ℕ). (let q : Schema = record { columns = columns_of parts; chunk_size = z } in q)) size

-- what is answered

one_of : (c : Bool) (x y : ℕ) → (if c then Some x else Some y) ≡ None → ⊥
one_of true x y h = cc
one_of false x y h = cc

least_none : (a b : Option ℕ) → least a b ≡ None → a ≡ None
least_none None b h = refl
least_none (Some x) None h = absurd cc
least_none (Some x) (Some y) h = absurd (one_of (nat_le x y) x y h)

-- the rules that a text breaks beside its schema's
abbrev beside : List Arg → Option ℕ
beside parts = least (rule_where (list_any is_bits_with_metric parts) 11) (rule_where (nat_lt 1 (count_by is_size parts)) 12)

abbrev made : List Column → ℕ → Schema
made cs size = record { columns = cs; chunk_size = size }

made_narrow : (parts : List Arg) (cs : List Column) (size : ℕ) → cs ≡ columns_of (map narrow_arg parts) → size ≡ first_or 1024 (sizes_of (map narrow_arg parts)) → made cs size ≡ schema_of (map narrow_arg parts)
made_narrow parts cs size e f = ap (λ (z : List Column). made z size) e ∙ ap (λ (z : ℕ). made (columns_of (map narrow_arg parts)) z) f

pub rule_told : (parts : List Arg) (cs : List Column) (size : ℕ) (r : Option ℕ) → cs ≡ columns_of (map narrow_arg parts) → size ≡ first_or 1024 (sizes_of (map narrow_arg parts)) →
    r ≡ least (schema_fault (made cs size)) (beside parts) → r ≡ text_fault parts
rule_told parts cs size r e f h = h ∙ ap (λ (z : Option ℕ). least z (beside parts)) (ap (λ (z : Schema). schema_fault z) (made_narrow parts cs size e f) ∙ narrow_fault parts)

pub answered_rule : (parts : List Arg) (cs : List Column) (size rule : ℕ) (r : Option ℕ) → cs ≡ columns_of (map narrow_arg parts) → size ≡ first_or 1024 (sizes_of (map narrow_arg parts)) →
    r ≡ least (schema_fault (made cs size)) (beside parts) → r ≡ Some rule → Gives {A = Schema} refusals.WantOfMemory (Err (refusals.BadSchema rule)) (answer_of parts)
answered_rule parts cs size rule r e f h k = inl (sym (ap (λ (z : Option ℕ). answer_by z (schema_of parts)) (sym (rule_told parts cs size r e f h) ∙ k)))

pub answered_schema : (parts : List Arg) (cs : List Column) (size : ℕ) (r : Option ℕ) → cs ≡ columns_of (map narrow_arg parts) → size ≡ first_or 1024 (sizes_of (map narrow_arg parts)) →
    r ≡ least (schema_fault (made cs size)) (beside parts) → r ≡ None → Gives refusals.WantOfMemory (Ok (made cs size)) (answer_of parts)
answered_schema parts cs size r e f h k =
    let none : text_fault parts ≡ None = sym (rule_told parts cs size r e f h) ∙ k in
    let same : made cs size ≡ schema_of parts = made_narrow parts cs size e f ∙ narrow_same parts (least_none (schema_fault (schema_of parts)) (beside parts) none) in
    inl (ap (λ (z : Schema). (let q : Result Schema Refusal = Ok z in q)) same ∙ sym (ap (λ (z : Option ℕ). answer_by z (schema_of parts)) none))

-- names are kept in lower case

names_kept : (parts : List Arg) → list_all has_name parts ≡ true → list_all (λ (c : Column). is_name c.name) (columns_of parts) ≡ true
names_kept [] h = refl
names_kept (args.Column name s ∷ parts) h = and_from _ _ (and_parts _ _ h).0 (names_kept parts (and_parts _ _ h).1)
names_kept (args.ChunkSize n ∷ parts) h = names_kept parts h

valid_of : (parts : List Arg) → schema_fault (schema_of parts) ≡ None → list_all has_name parts ≡ true → IsValidSchema (schema_of parts)
valid_of parts h k = record { rules = h; names = names_kept parts k }

pub valid_schema : (parts : List Arg) (cs : List Column) (size : ℕ) (r : Option ℕ) → cs ≡ columns_of (map narrow_arg parts) → size ≡ first_or 1024 (sizes_of (map narrow_arg parts)) →
    r ≡ least (schema_fault (made cs size)) (beside parts) → r ≡ None → list_all has_name parts ≡ true → IsValidSchema (made cs size)
valid_schema parts cs size r e f h k n =
    let none : text_fault parts ≡ None = sym (rule_told parts cs size r e f h) ∙ k in
    let rules : schema_fault (schema_of parts) ≡ None = least_none (schema_fault (schema_of parts)) (beside parts) none in
    subst (λ (z : Schema). IsValidSchema z) (sym (made_narrow parts cs size e f ∙ narrow_same parts rules)) (valid_of parts rules n)
