-- The records of worked tables, each proved by computing.
use Rattle.std.proofs.Common.{◌≡◌, ℕ, pos, negsuc, List, [], ◌∷◌, ◌++◌, codes, length, replicate, refl, ap, ◌∙◌, Some, None}
use Rattle.std.specs.Fmt.{digits}
use Rattle.std.specs.Option.{option_map}
use Rattle.std.specs.FinMap.{get, get-empty}
use Rattle.vec_base.specs.declared.shadow.Change.{Change}
use Rattle.vec_base.specs.declared.shadow.Change.TheVariants.{Put, Fill, Remove, Patch}
use Rattle.vec_base.specs.declared.shadow.ShadowKey.{ShadowKey}
use Rattle.vec_base.specs.declared.value.Value.TheVariants.{Null, Int, Text, Int8, Bits}
use Rattle.row_model.specs.declared.schema.Column.{Column}
use Rattle.row_model.specs.declared.schema.Kind.{Kind}
use Rattle.row_model.specs.declared.schema.Kind.TheVariants.{TextKey, Int8Vector, BitVector, IntPartition, TextPartition, IntMeta, TextMeta, BoolMeta, IntAux, TextAux}
use Rattle.row_model.specs.declared.schema.Metric.TheVariants.{L2}
use Rattle.row_model.specs.Machine.{no_tables}
use Rattle.shadow_records.specs.Batches.{applied}
use Rattle.shadow_records.specs.Keys.{key_cmp, key_of, no_records}
use Rattle.shadow_records.specs.PlacedTables.{PlacedRow, PlacedTable}
use Rattle.shadow_records.specs.Records.{body_at}
use Rattle.shadow_records.specs.StandsFor.{StandsFor}
use Rattle.shadow_records.specs.inner.OneKey.{applied_at}
use Rattle.shadow_records.proofs.BatchLaws.{get-applied}
use Rattle.shadow_records.specs.declared.kinds.TheConstants.{INFO_RECORDS, CHUNK_RECORDS, ROW_RECORDS, VECTOR_RECORDS, METADATA_RECORDS, LONG_TEXT_RECORDS, AUXILIARY_RECORDS}

abbrev column : List ℕ → Kind → Column
column name kind = record { name = name; kind = kind }

-- a table of one column, a int8[2], as it is made
abbrev fresh : PlacedTable
fresh = record { name = codes "v"; schema = record { columns = column (codes "a") (Int8Vector 2 L2) ∷ []; chunk_size = 1024 }; top = pos 0; rows = [] }

fresh-info : option_map length (body_at fresh INFO_RECORDS (pos 0) (pos 0)) ≡ Some 47
unfolding digits
fresh-info = refl

fresh-top : body_at fresh INFO_RECORDS (pos 1) (pos 0) ≡ Some (replicate 8 0)
fresh-top = refl

fresh-chunk : body_at fresh CHUNK_RECORDS (pos 1) (pos 1) ≡ None
fresh-chunk = refl

-- a int8[2], p integer partition key, in chunks of 8 rows. Rows 1 to 9 have p = 1, of which 2, 4 and 6 were removed; rows 10 to 12 have p = 2.
abbrev placed : ℕ → ℕ → ℕ → ℕ → PlacedRow
placed rowid p chunk slot = record { row = record { rowid = pos rowid; values = Int8 (rowid ∷ 0 ∷ []) ∷ Int (pos p) ∷ [] }; chunk = chunk; slot = slot }

abbrev parted : PlacedTable
parted = record {
  name = codes "v";
  schema = record { columns = column (codes "a") (Int8Vector 2 L2) ∷ column (codes "p") IntPartition ∷ []; chunk_size = 8 };
  top = pos 12;
  rows = placed 1 1 1 0 ∷ placed 3 1 1 2 ∷ placed 5 1 1 4 ∷ placed 7 1 1 6 ∷ placed 8 1 1 7 ∷ placed 9 1 2 0 ∷ placed 10 2 3 0 ∷ placed 11 2 3 1 ∷ placed 12 2 3 2 ∷ [];
}

parted-validity_1 : body_at parted CHUNK_RECORDS (pos 1) (pos 1) ≡ Some (213 ∷ [])
parted-validity_1 = refl

parted-validity_2 : body_at parted CHUNK_RECORDS (pos 2) (pos 1) ≡ Some (1 ∷ [])
parted-validity_2 = refl

parted-validity_3 : body_at parted CHUNK_RECORDS (pos 3) (pos 1) ≡ Some (7 ∷ [])
parted-validity_3 = refl

parted-partition : body_at parted CHUNK_RECORDS (pos 3) (pos 0) ≡ Some (1 ∷ 2 ∷ replicate 7 0)
parted-partition = refl

parted-rowids : body_at parted CHUNK_RECORDS (pos 2) (pos 2) ≡ Some (9 ∷ replicate 63 0)
parted-rowids = refl

parted-place : body_at parted ROW_RECORDS (pos 8) (pos 0) ≡ Some (1 ∷ 0 ∷ 0 ∷ 0 ∷ 7 ∷ 0 ∷ [])
parted-place = refl

parted-vectors : body_at parted VECTOR_RECORDS (pos 3) (pos 0) ≡ Some (10 ∷ 0 ∷ 11 ∷ 0 ∷ 12 ∷ replicate 11 0)
parted-vectors = refl

parted-no_chunk : body_at parted CHUNK_RECORDS (pos 4) (pos 1) ≡ None
parted-no_chunk = refl

parted-no_metadata : body_at parted METADATA_RECORDS (pos 1) (pos 0) ≡ None
parted-no_metadata = refl

-- a column of each other kind, and one row
abbrev mixed : PlacedTable
mixed = record {
  name = codes "w";
  schema = record { columns = column (codes "id") TextKey ∷ column (codes "m") TextMeta ∷ column (codes "q") TextPartition ∷ column (codes "e") (BitVector 8) ∷ column (codes "b") BoolMeta ∷ column (codes "x") TextAux ∷ column (codes "n") IntMeta ∷ column (codes "y") IntAux ∷ []; chunk_size = 8 };
  top = pos 5;
  rows = record { row = record { rowid = pos 5; values = Text (codes "key") ∷ Text (codes "abcdefghijklm") ∷ Text (codes "ann") ∷ Bits (15 ∷ []) ∷ Int (pos 1) ∷ Null ∷ Int (negsuc 0) ∷ Int (pos 3) ∷ [] }; chunk = 1; slot = 3 } ∷ [];
}

mixed-place : body_at mixed ROW_RECORDS (pos 5) (pos 0) ≡ Some (1 ∷ 0 ∷ 0 ∷ 0 ∷ 3 ∷ 0 ∷ codes "key")
mixed-place = refl

mixed-partition : body_at mixed CHUNK_RECORDS (pos 1) (pos 0) ≡ Some (2 ∷ 3 ∷ 0 ∷ 0 ∷ 0 ∷ codes "ann")
mixed-partition = refl

mixed-bit_vectors : body_at mixed VECTOR_RECORDS (pos 1) (pos 0) ≡ Some (0 ∷ 0 ∷ 0 ∷ 15 ∷ replicate 4 0)
mixed-bit_vectors = refl

mixed-view : body_at mixed METADATA_RECORDS (pos 1) (pos 0) ≡ Some (replicate 48 0 ++ (13 ∷ 0 ∷ 0 ∷ 0 ∷ codes "abcdefghijkl") ++ replicate 64 0)
mixed-view = refl

mixed-bits : body_at mixed METADATA_RECORDS (pos 1) (pos 1) ≡ Some (8 ∷ [])
mixed-bits = refl

mixed-numbers : body_at mixed METADATA_RECORDS (pos 1) (pos 2) ≡ Some (replicate 24 0 ++ replicate 8 255 ++ replicate 32 0)
mixed-numbers = refl

mixed-long_text : body_at mixed LONG_TEXT_RECORDS (pos 5) (pos 0) ≡ Some (codes "abcdefghijklm")
mixed-long_text = refl

mixed-no_long_text : body_at mixed LONG_TEXT_RECORDS (pos 5) (pos 2) ≡ None
mixed-no_long_text = refl

mixed-null : body_at mixed AUXILIARY_RECORDS (pos 5) (pos 0) ≡ None
mixed-null = refl

mixed-auxiliary : body_at mixed AUXILIARY_RECORDS (pos 5) (pos 1) ≡ Some (3 ∷ replicate 7 0)
mixed-auxiliary = refl

-- ---- changes of kept records

abbrev key : ShadowKey
key = key_of 1 ROW_RECORDS (pos 8) (pos 0)

abbrev written : List Change
written = Fill key 4 ∷ Patch key 1 (7 ∷ 9 ∷ []) ∷ Put (key_of 1 ROW_RECORDS (pos 9) (pos 0)) (5 ∷ []) ∷ []

after : (batch : List Change) (at : ShadowKey) → get (applied batch no_records) at ≡ applied_at batch at None
after batch at = get-applied batch no_records at ∙ ap (applied_at batch at) (get-empty key_cmp at)

written-body : get (applied written no_records) key ≡ Some (0 ∷ 7 ∷ 9 ∷ 0 ∷ [])
written-body = after written key

removed-body : get (applied (written ++ Remove key ∷ []) no_records) key ≡ None
removed-body = after (written ++ Remove key ∷ []) key

other-body : get (applied (written ++ Remove key ∷ []) no_records) (key_of 1 ROW_RECORDS (pos 9) (pos 0)) ≡ Some (5 ∷ [])
other-body = after (written ++ Remove key ∷ []) (key_of 1 ROW_RECORDS (pos 9) (pos 0))

-- no records stand for no tables
nothing-stands : StandsFor no_records no_tables
nothing-stands = record {
  numbered = [];
  shows = refl;
  valid = record { numbers = refl; own_names = refl; names = refl; tables = tt; vectors = refl; sides = refl };
  placed = tt;
  holds = λ key. get-empty key_cmp key;
}
