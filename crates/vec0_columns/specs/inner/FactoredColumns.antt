-- The grammar of the column text with equal beginnings taken together, so that the next token decides each choice.
use Rattle.std.specs.Prelude.{List, ◌∷◌, codes}
use Rattle.vec_literal.specs.Tokens.{Token}
use Rattle.grammar.specs.Grammar.{Part, one, seq, alt, opt, means, sign, ◌▸◌, list_of, or_default}
use Rattle.row_model.specs.declared.schema.Kind.{Kind}
use Rattle.row_model.specs.declared.schema.Kind.TheVariants as kinds
use Rattle.vec0_columns.specs.declared.text.Spelled.{Spelled}
use Rattle.vec0_columns.specs.declared.text.Spelled.TheVariants.{Plain}
use Rattle.vec0_columns.specs.declared.text.Arg.{Arg}
use Rattle.vec0_columns.specs.ColumnGrammar.{integer_word, boolean_word, text_word, blob_word, stands_for, primary_key, partition_key, int8, bits, column, auxiliary, chunk_size}

-- PRIMARY KEY | PARTITION KEY
unfoldable pub key : Kind → Kind → Part Spelled
key primary partition = alt (primary_key primary) (partition_key partition)

-- INTEGER [PRIMARY KEY | PARTITION KEY]
unfoldable pub integer_kind : Part Spelled
integer_kind = means (or_default (Plain kinds.IntMeta)) (integer_word ▸ opt (key kinds.IntKey kinds.IntPartition))

-- TEXT [PRIMARY KEY | PARTITION KEY]
unfoldable pub text_kind : Part Spelled
text_kind = means (or_default (Plain kinds.TextMeta)) (text_word ▸ opt (key kinds.TextKey kinds.TextPartition))

-- TEXT .. | BOOLEAN
unfoldable pub text_or_boolean : Part Spelled
text_or_boolean = alt text_kind (stands_for kinds.BoolMeta boolean_word)

-- INTEGER .. | TEXT .. | BOOLEAN
unfoldable pub scalar_kind : Part Spelled
scalar_kind = alt integer_kind text_or_boolean

-- INT8 .. | BIT .. | INTEGER .. | TEXT .. | BOOLEAN
unfoldable pub kind : Part Spelled
kind = alt int8 (alt bits scalar_kind)

-- INTEGER | TEXT | BLOB
unfoldable pub auxiliary_kind : Part Spelled
auxiliary_kind = alt (stands_for kinds.IntAux integer_word) (alt (stands_for kinds.TextAux text_word) (stands_for kinds.BlobAux blob_word))

-- CHUNK_SIZE .. | + name .. | name ..
unfoldable pub factored_arg : Part Arg
factored_arg = alt chunk_size (alt (auxiliary auxiliary_kind) (column kind))

-- arg {, arg}
unfoldable pub factored_columns : Part (List Arg)
factored_columns = list_of factored_arg

-- columns )
unfoldable pub factored_enclosed : Part (List Arg × Token)
factored_enclosed = seq factored_columns (one (sign (codes ")")))
