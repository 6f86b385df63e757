-- The lexemes of the canonical text of a schema.
use Rattle.std.specs.Prelude.{ℕ, List, [], ◌∷◌, ◌++◌, codes}
use Rattle.std.specs.Fmt.{decimal}
use Rattle.std.specs.List.{flat_map}
use Rattle.row_model.specs.declared.schema.Column.{Column}
use Rattle.row_model.specs.declared.schema.Kind.{Kind}
use Rattle.row_model.specs.declared.schema.Kind.TheVariants.{IntKey, TextKey, Int8Vector, BitVector, IntPartition, TextPartition, IntMeta, TextMeta, BoolMeta, IntAux, TextAux, BlobAux}
use Rattle.row_model.specs.declared.schema.Schema.{Schema}
use Rattle.row_model.specs.CanonicalColumns.{metric_text}
use Rattle.vec_literal.specs.Lexemes.{Lexeme, word_lexeme, number_lexeme, mark_lexeme}

-- a number in brackets
abbrev pub size_lexemes : ℕ → List Lexeme
size_lexemes n = mark_lexeme (codes "[") ∷ number_lexeme (decimal n) ∷ mark_lexeme (codes "]") ∷ []

abbrev pub declared_lexemes : List ℕ → Kind → List Lexeme
declared_lexemes name IntKey = word_lexeme name ∷ word_lexeme (codes "integer") ∷ word_lexeme (codes "primary") ∷ word_lexeme (codes "key") ∷ []
declared_lexemes name TextKey = word_lexeme name ∷ word_lexeme (codes "text") ∷ word_lexeme (codes "primary") ∷ word_lexeme (codes "key") ∷ []
declared_lexemes name (Int8Vector width metric) =
    word_lexeme name ∷ word_lexeme (codes "int8") ∷ size_lexemes width ++ word_lexeme (codes "distance_metric") ∷ mark_lexeme (codes "=") ∷ word_lexeme (metric_text metric) ∷ []
declared_lexemes name (BitVector width) = word_lexeme name ∷ word_lexeme (codes "bit") ∷ size_lexemes width
declared_lexemes name IntPartition = word_lexeme name ∷ word_lexeme (codes "integer") ∷ word_lexeme (codes "partition") ∷ word_lexeme (codes "key") ∷ []
declared_lexemes name TextPartition = word_lexeme name ∷ word_lexeme (codes "text") ∷ word_lexeme (codes "partition") ∷ word_lexeme (codes "key") ∷ []
declared_lexemes name IntMeta = word_lexeme name ∷ word_lexeme (codes "integer") ∷ []
declared_lexemes name TextMeta = word_lexeme name ∷ word_lexeme (codes "text") ∷ []
declared_lexemes name BoolMeta = word_lexeme name ∷ word_lexeme (codes "boolean") ∷ []
declared_lexemes name IntAux = mark_lexeme (codes "+") ∷ word_lexeme name ∷ word_lexeme (codes "integer") ∷ []
declared_lexemes name TextAux = mark_lexeme (codes "+") ∷ word_lexeme name ∷ word_lexeme (codes "text") ∷ []
declared_lexemes name BlobAux = mark_lexeme (codes "+") ∷ word_lexeme name ∷ word_lexeme (codes "blob") ∷ []

-- a column's lexemes
abbrev pub column_lexemes : Column → List Lexeme
column_lexemes column = declared_lexemes column.name column.kind

-- the columns' lexemes, each with a comma behind it, and the chunk size
abbrev pub canonical_lexemes : Schema → List Lexeme
canonical_lexemes schema =
    flat_map (λ column. column_lexemes column ++ mark_lexeme (codes ",") ∷ []) schema.columns
    ++ word_lexeme (codes "chunk_size") ∷ mark_lexeme (codes "=") ∷ number_lexeme (decimal schema.chunk_size) ∷ []
