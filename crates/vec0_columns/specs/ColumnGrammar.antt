-- The text between vec0's parentheses: its grammar, the schema that its parts declare, and the rules that they break.
use Rattle.std.specs.Prelude.{ℕ, Bool, true, false, if◌then◌else◌, List, [], ◌∷◌, Option, Some, None, codes, nat_lt, nat_le}
use Rattle.std.specs.List.{list_any, count_by}
use Rattle.vec_literal.specs.Tokens.{Token}
use Rattle.grammar.specs.Grammar.{Part, one, seq, alt, opt, means, sign, ◌▸◌, ◌◂◌, a_word, a_mark, a_name, a_number, list_of}
use Rattle.vec_base.specs.Words.{is_name}
use Rattle.vec_base.specs.declared.limits.TheConstants.{DEFAULT_CHUNK_SIZE}
use Rattle.row_model.specs.declared.schema.Column.{Column}
use Rattle.row_model.specs.declared.schema.Kind.{Kind}
use Rattle.row_model.specs.declared.schema.Kind.TheVariants as kinds
use Rattle.row_model.specs.declared.schema.Metric.{Metric}
use Rattle.row_model.specs.declared.schema.Metric.TheVariants.{L1, L2}
use Rattle.row_model.specs.declared.schema.Schema.{Schema}
use Rattle.row_model.specs.Schemas.{schema_fault}
use Rattle.vec0_columns.specs.declared.text.Spelled.{Spelled}
use Rattle.vec0_columns.specs.declared.text.Spelled.TheVariants.{Int8, Bits, Plain}
use Rattle.vec0_columns.specs.declared.text.Arg.{Arg}
use Rattle.vec0_columns.specs.declared.text.Arg.TheVariants as args

-- ---- the grammar

-- `INT` stands for INTEGER
unfoldable pub integer_word : Part (Unit {0})
integer_word = alt (a_word (codes "INTEGER")) (a_word (codes "INT"))

-- `BOOL` stands for BOOLEAN
unfoldable pub boolean_word : Part (Unit {0})
boolean_word = alt (a_word (codes "BOOLEAN")) (a_word (codes "BOOL"))

abbrev pub text_word : Part (Unit {0})
text_word = a_word (codes "TEXT")

abbrev pub blob_word : Part (Unit {0})
blob_word = a_word (codes "BLOB")

-- the part, which stands for a column of the kind
abbrev pub stands_for : Kind → Part (Unit {0}) → Part Spelled
stands_for kind p = means (λ x. Plain kind) p

-- PRIMARY KEY
abbrev pub primary_key : Kind → Part Spelled
primary_key kind = stands_for kind (a_word (codes "PRIMARY") ▸ a_word (codes "KEY"))

-- PARTITION KEY
abbrev pub partition_key : Kind → Part Spelled
partition_key kind = stands_for kind (a_word (codes "PARTITION") ▸ a_word (codes "KEY"))

-- metric = DISTANCE_METRIC = ( L1 | L2 )
unfoldable pub metric : Part Metric
metric =
    a_word (codes "DISTANCE_METRIC") ▸ a_mark (codes "=") ▸
    alt (means (λ x. L1) (a_word (codes "L1"))) (means (λ x. L2) (a_word (codes "L2")))

-- [ Number ] [metric], where the first brackets are marks
abbrev pub vector : (ℕ → Option Metric → Spelled) → Part Spelled
vector f = means (λ x. f x.0 x.1) (a_mark (codes "[") ▸ seq (a_number ◂ a_mark (codes "]")) (opt metric))

-- INT8 [ Number ] [metric]
unfoldable pub int8 : Part Spelled
int8 = a_word (codes "INT8") ▸ vector (λ n m. Int8 n m)

-- BIT [ Number ] [metric]
unfoldable pub bits : Part Spelled
bits = a_word (codes "BIT") ▸ vector (λ n m. Bits n m)

-- a name and a kind
abbrev pub column : Part Spelled → Part Arg
column kind = means (λ x. args.Column x.0 x.1) (seq a_name kind)

-- `+`, a name and a kind
abbrev pub auxiliary : Part Spelled → Part Arg
auxiliary kind = a_mark (codes "+") ▸ column kind

-- CHUNK_SIZE = Number
unfoldable pub chunk_size : Part Arg
chunk_size = means (λ n. args.ChunkSize n) (a_word (codes "CHUNK_SIZE") ▸ a_mark (codes "=") ▸ a_number)

-- arg = name INTEGER PRIMARY KEY | name TEXT PRIMARY KEY
--     | name INT8 [ Number ] [metric] | name BIT [ Number ] [metric]
--     | name INTEGER PARTITION KEY | name TEXT PARTITION KEY
--     | name INTEGER | name TEXT | name BOOLEAN
--     | + name INTEGER | + name TEXT | + name BLOB
--     | CHUNK_SIZE = Number
unfoldable pub arg : Part Arg
arg =
    alt (column (integer_word ▸ primary_key kinds.IntKey)) (alt (column (text_word ▸ primary_key kinds.TextKey))
    (alt (column int8) (alt (column bits)
    (alt (column (integer_word ▸ partition_key kinds.IntPartition)) (alt (column (text_word ▸ partition_key kinds.TextPartition))
    (alt (column (stands_for kinds.IntMeta integer_word)) (alt (column (stands_for kinds.TextMeta text_word)) (alt (column (stands_for kinds.BoolMeta boolean_word))
    (alt (auxiliary (stands_for kinds.IntAux integer_word)) (alt (auxiliary (stands_for kinds.TextAux text_word)) (alt (auxiliary (stands_for kinds.BlobAux blob_word))
    chunk_size)))))))))))

-- columns = arg {, arg}
unfoldable pub columns : Part (List Arg)
columns = list_of arg

-- columns )
unfoldable pub enclosed : Part (List Arg × Token)
enclosed = seq columns (one (sign (codes ")")))

-- a column has a name
abbrev pub has_name : Arg → Bool
has_name (args.Column name spelled) = is_name name
has_name (args.ChunkSize n) = true

-- ---- the schema

abbrev pub metric_or_l2 : Option Metric → Metric
metric_or_l2 None = L2
metric_or_l2 (Some m) = m

abbrev pub kind_of : Spelled → Kind
kind_of (Int8 n m) = kinds.Int8Vector n (metric_or_l2 m)
kind_of (Bits n m) = kinds.BitVector n
kind_of (Plain kind) = kind

-- the columns, in their order
abbrev pub columns_of : List Arg → List Column
columns_of [] = []
columns_of (args.Column name spelled ∷ others) = record { name = name; kind = kind_of spelled } ∷ columns_of others
columns_of (args.ChunkSize n ∷ others) = columns_of others

-- the chunk sizes that are given
abbrev pub sizes_of : List Arg → List ℕ
sizes_of [] = []
sizes_of (args.Column name spelled ∷ others) = sizes_of others
sizes_of (args.ChunkSize n ∷ others) = n ∷ sizes_of others

abbrev pub first_or : ℕ → List ℕ → ℕ
first_or n [] = n
first_or n (size ∷ sizes) = size

-- The schema that the parts declare. Its numbers may be any, so that the rules of schemas speak of them all.
abbrev pub schema_of : List Arg → Schema
schema_of parts = record { columns = columns_of parts; chunk_size = first_or DEFAULT_CHUNK_SIZE (sizes_of parts) }

abbrev pub is_bits_with_metric : Arg → Bool
is_bits_with_metric (args.Column name (Bits n (Some m))) = true
is_bits_with_metric other = false

abbrev pub is_size : Arg → Bool
is_size (args.ChunkSize n) = true
is_size other = false

-- the rule, where it is broken
abbrev pub rule_where : Bool → ℕ → Option ℕ
rule_where true rule = Some rule
rule_where false rule = None

abbrev pub least : Option ℕ → Option ℕ → Option ℕ
least None other = other
least (Some a) None = Some a
least (Some a) (Some b) = if nat_le a b then Some a else Some b

-- The least rule that the parts break: one of the schema's, rule 11 where a bit column has a metric, or rule 12 where a
-- chunk size is given twice.
abbrev pub text_fault : List Arg → Option ℕ
text_fault parts =
    least (schema_fault (schema_of parts))
    (least (rule_where (list_any is_bits_with_metric parts) 11) (rule_where (nat_lt 1 (count_by is_size parts)) 12))
