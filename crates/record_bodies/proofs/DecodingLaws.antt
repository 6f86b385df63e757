-- The records of a table show its rows, and no others.
use Rattle.std.proofs.Common.{◌≡◌, ℕ, zero, suc, ◌/◌, ◌<◌, ◌≤◌, ◌^◌, ℤ, pos, List, [], ◌∷◌, ◌++◌, length, get_or, take, drop, drop-cons, cond, Bool, true, ◌&&◌, nat_lt, refl, sym, ap, ap₂, ◌∙◌, subst, arith, append_assoc, length-append, flat_map}
use Rattle.std.specs.declared.option.Option.{Option}
use Rattle.std.specs.declared.option.Option.TheVariants.{Some, None}
use Rattle.std.specs.Option.{option_and_then, option_map}
use Rattle.std.specs.List.{list_all, slice_get, AllByRecursion}
use Rattle.std.specs.Int.{to_le_bytes, from_le_bytes, w16, w32}
use Rattle.std.proofs.lemmas.List.{append-nil, length-replicate}
use Rattle.std.proofs.lemmas.Bool.{and_parts, ltb-true, le-leb}
use Rattle.std.proofs.lemmas.Nat.{from_le_bytes-to_le_bytes_2, from_le_bytes-to_le_bytes_4}
use Rattle.vec_base.specs.Representable.{IsRepresentable}
use Rattle.vec_base.specs.declared.shadow.ShadowKey.{ShadowKey}
use Rattle.vec_base.specs.declared.value.Value.{Value}
use Rattle.vec_base.specs.declared.value.Value.TheVariants.{Null, Int, Int8, Bits}
use Rattle.row_model.specs.RepresentableStatements.{AreRepresentable}
use Rattle.row_model.specs.declared.schema.Column.{Column}
use Rattle.row_model.specs.declared.schema.Kind.{Kind}
use Rattle.row_model.specs.declared.schema.Kind.TheVariants.{IntKey, TextKey, Int8Vector, BitVector, IntPartition, TextPartition, IntMeta, TextMeta, BoolMeta, IntAux, TextAux, BlobAux}
use Rattle.row_model.specs.Schemas.{is_vector, is_partition, is_metadata, is_auxiliary, is_key, count_of}
use Rattle.row_model.specs.Valid.{is_valid_value, are_valid_values, is_valid_row, IsRepresentableRow}
use Rattle.shadow_records.specs.Cells.{laid, bitmap, value_cell, cell_width, is_one, long_text, side_body, partition_value_bytes}
use Rattle.shadow_records.specs.Keys.{key_of}
use Rattle.shadow_records.specs.PlacedTables.{PlacedRow, PlacedTable, row_at, row_of, first_in, value_in, partition_of, is_place, IsPlaced}
use Rattle.shadow_records.specs.Records.{RecordsAre, ColumnAt, nth_column, id_bytes, slot_cell, slot_bit, cells_body, chunk_body, of_first, value_body, place_body}
use Rattle.record_bodies.specs.Bodies.{place_in, int_in, text_in, blob_in, partition_in, joined, cell_in, bit_in, bool_in, bool_of, viewed_text, side_value}
use Rattle.record_bodies.specs.ReadRows.{RowSource, chunk_record, row_record, value_of, alike_before, values_of, has_slot_records, placed_row, with_partition, at_place, decoded_from, decoded}
use Rattle.record_bodies.proofs.CellLaws.{cell_there, bit_there}
use Rattle.record_bodies.proofs.ColumnLaws.{column_there, valid_there, valid_length}
use Rattle.record_bodies.proofs.FindLaws.{found_all, found_each, all_rows, each_row, rowid_is, found_at_place, FirstOf, first_of}
use Rattle.record_bodies.proofs.ValueLaws.{int_back, view_back, text_back, length_view, as_int8, as_bits, as_int, as_text, as_bool, as_key, as_id, int_side_back, text_side_back, blob_side_back}
use Rattle.record_bodies.proofs.PartitionLaws.{partition_back, partition_there, id_there}
use Rattle.record_bodies.proofs.SchemaLaws.{fits_chunks, FitsChunks}

same_row : (a b : ℤ) (c d s t : ℕ) (xs : List Value) → a ≡ b → c ≡ d → s ≡ t →
    ◌≡◌ {A = Option PlacedRow} (Some (record { row = record { rowid = a; values = xs }; chunk = c; slot = s })) (Some (record { row = record { rowid = b; values = xs }; chunk = d; slot = t }))
same_row a b c d s t xs e f g = λ i. Some (record { row = record { rowid = e i; values = xs }; chunk = f i; slot = g i })

each_value : (values : List Value) (k : ℕ) → AreRepresentable values → IsRepresentable (get_or values k Null)
each_value [] zero h = tt
each_value [] (suc k) h = tt
each_value (x ∷ values) zero h = h.0
each_value (x ∷ values) (suc k) h = each_value values k h.1

module _ (number : ℕ) (table : PlacedTable) (read : ShadowKey → Option (List ℕ)) (are : RecordsAre number table read) (good : IsPlaced table) where
  abbrev columns : List Column
  columns = table.schema.columns

  fits : FitsChunks table.schema
  fits = fits_chunks table.schema good.valid.schema.rules

  valid : list_all (λ (p : PlacedRow). is_valid_row columns p.row) table.rows ≡ true
  valid = sym (all_rows (λ (p : PlacedRow). p.row) (is_valid_row columns) table.rows) ∙ good.valid.values

  representable : AllByRecursion (λ (p : PlacedRow). IsRepresentableRow p.row) table.rows
  representable = each_row (λ (p : PlacedRow). p.row) IsRepresentableRow table.rows good.valid.representable

  valid_of : (rowid : ℤ) (p : PlacedRow) → row_of table.rows rowid ≡ Some p → are_valid_values columns p.row.rowid p.row.values ≡ true
  valid_of rowid p e = found_all _ (λ (p : PlacedRow). is_valid_row columns p.row) table.rows p valid e

  -- each cell of a column has the column's width
  widths : (chunk : ℕ) (before after : List Column) (column : Column) (kind : Kind) → before ++ column ∷ after ≡ columns → column.kind ≡ kind →
      ((rowid : ℤ) (x : Value) → is_valid_value kind rowid x ≡ true → length (value_cell x) ≡ cell_width kind) →
      (slot : ℕ) → length (slot_cell (record { place = length before; kind = kind }) (row_at table.rows chunk slot)) ≡ cell_width kind
  widths chunk before after column kind split k wide slot = at (row_at table.rows chunk slot) refl where
    at : (o : Option PlacedRow) → row_at table.rows chunk slot ≡ o → length (slot_cell (record { place = length before; kind = kind }) o) ≡ cell_width kind
    at None e = length-replicate {A = ℕ} (cell_width kind) 0
    at (Some q) e =
        let ok = found_all _ (λ (p : PlacedRow). is_valid_row columns p.row) table.rows q valid e in
        let here : are_valid_values (before ++ column ∷ after) q.row.rowid q.row.values ≡ true = ap (λ l. are_valid_values l q.row.rowid q.row.values) split ∙ ok in
        wide q.row.rowid (value_in (length before) q) (ap (λ t. is_valid_value t q.row.rowid (value_in (length before) q)) (sym k) ∙ valid_there before after column q.row.rowid q.row.values here)

  module _ (rowid : ℤ) (p : PlacedRow) (e : row_of table.rows rowid ≡ Some p) where
    abbrev body : List ℕ
    body = to_le_bytes w32 p.chunk ++ to_le_bytes w16 p.slot ++ id_bytes columns p.row.values

    placed : is_place table.schema.chunk_size p ≡ true
    placed = found_all _ (is_place table.schema.chunk_size) table.rows p good.places e

    small : (p.chunk < 2 ^ 32) × (p.slot < table.schema.chunk_size)
    small =
        let parts = and_parts (nat_lt 0 p.chunk) (nat_lt p.chunk (2 ^ 32) && nat_lt p.slot table.schema.chunk_size) placed in
        let both = and_parts (nat_lt p.chunk (2 ^ 32)) (nat_lt p.slot table.schema.chunk_size) parts.1 in
        (ltb-true p.chunk (2 ^ 32) both.0, ltb-true p.slot table.schema.chunk_size both.1)

    pair : (a b c d : ℕ) → a ≡ b → c ≡ d → ◌≡◌ {A = Option (ℕ × ℕ)} (Some (a, c)) (Some (b, d))
    pair a b c d f g = λ i. Some (f i, g i)

    -- the place is what its bytes say
    place_is : place_in body ≡ Some (p.chunk, p.slot)
    place_is =
        let slot_small : p.slot < 2 ^ 16 = (let s = small.1 in let most = fits.most in omega (arith, s, most)) in
        let long : 6 ≤ length body = omega arith in
        ap (λ b. cond {A = Option (ℕ × ℕ)} b (Some (from_le_bytes w32 (take 4 body), from_le_bytes w16 (take 2 (drop 4 body)))) None) (le-leb 6 (length body) long)
        ∙ pair _ p.chunk _ p.slot (from_le_bytes-to_le_bytes_4 p.chunk small.0) (from_le_bytes-to_le_bytes_2 p.slot slot_small)

    first : FirstOf columns table.rows p
    first = first_of columns table.rows rowid p good.alike e

    here : row_at table.rows p.chunk p.slot ≡ Some p
    here = found_at_place table.rows rowid p good.apart e

    held : IsRepresentableRow p.row
    held = found_each (λ (p : PlacedRow). IsRepresentableRow p.row) _ table.rows p representable e

    abbrev row : RowSource
    row = record { read = read; number = number; rowid = rowid; chunk = p.chunk; slot = p.slot; id = id_bytes columns p.row.values; partition = partition_of columns p.row.values }

    vector_record : (before : ℕ) (column : ColumnAt) → nth_column is_vector 0 columns before ≡ Some column → chunk_record row 4 before ≡ Some (cells_body table p.chunk column)
    vector_record before column there =
        are (key_of number 4 (pos p.chunk) (pos before)) refl
        ∙ ap (of_first (λ first. option_map (cells_body table p.chunk) (nth_column is_vector 0 columns before))) first.is
        ∙ ap (option_map (cells_body table p.chunk)) there

    metadata_record : (before : ℕ) (column : ColumnAt) → nth_column is_metadata 0 columns before ≡ Some column → chunk_record row 5 before ≡ Some (cells_body table p.chunk column)
    metadata_record before column there =
        are (key_of number 5 (pos p.chunk) (pos before)) refl
        ∙ ap (of_first (λ first. option_map (cells_body table p.chunk) (nth_column is_metadata 0 columns before))) first.is
        ∙ ap (option_map (cells_body table p.chunk)) there

    long_record : (before : ℕ) (column : ColumnAt) → nth_column is_metadata 0 columns before ≡ Some column → row_record row 6 before ≡ long_text (value_in column.place p)
    long_record before column there = are (key_of number 6 rowid (pos before)) refl ∙ ap₂ (value_body long_text) e there

    side_record : (before : ℕ) (column : ColumnAt) → nth_column is_auxiliary 0 columns before ≡ Some column → row_record row 7 before ≡ side_body (value_in column.place p)
    side_record before column there = are (key_of number 7 rowid (pos before)) refl ∙ ap₂ (value_body side_body) e there

    -- the value in a column is read back
    module _ (before after : List Column) (column : Column) (split : before ++ column ∷ after ≡ columns) where
      abbrev x : Value
      x = value_in (length before) p

      x_valid : (kind : Kind) → column.kind ≡ kind → is_valid_value kind p.row.rowid x ≡ true
      x_valid kind k =
          ap (λ t. is_valid_value t p.row.rowid x) (sym k)
          ∙ valid_there before after column p.row.rowid p.row.values (ap (λ l. are_valid_values l p.row.rowid p.row.values) split ∙ valid_of rowid p e)

      x_in : length before < length p.row.values
      x_in =
          let all = valid_length columns p.row.rowid p.row.values (valid_of rowid p e) in
          let parts = ap length split in
          let sum = length-append before (column ∷ after) in
          omega (arith, all, parts, sum)

      x_held : IsRepresentable x
      x_held = each_value p.row.values (length before) held.values

      there : (sort : Kind → Bool) (kind : Kind) → column.kind ≡ kind → sort kind ≡ true → nth_column sort 0 columns (count_of sort before) ≡ Some (record { place = length before; kind = kind })
      there sort kind k is =
          ap (λ l. nth_column sort 0 l (count_of sort before)) (sym split) ∙ column_there sort 0 (length before) before after column (ap sort k ∙ is) (omega arith)
          ∙ ap (λ t. Some (record { place = length before; kind = t })) k

      cell_back : (kind : Kind) → column.kind ≡ kind → ((rowid : ℤ) (x : Value) → is_valid_value kind rowid x ≡ true → length (value_cell x) ≡ cell_width kind) →
          cell_in (cell_width kind) p.slot (laid (λ slot. slot_cell (record { place = length before; kind = kind }) (row_at table.rows p.chunk slot)) table.schema.chunk_size) ≡ Some (value_cell x)
      cell_back kind k wide =
          cell_there (λ slot. slot_cell (record { place = length before; kind = kind }) (row_at table.rows p.chunk slot)) (cell_width kind) table.schema.chunk_size p.slot (widths p.chunk before after column kind split k wide) small.1
          ∙ ap (λ o. Some (slot_cell (record { place = length before; kind = kind }) o)) here

      bit_back : column.kind ≡ BoolMeta → bit_in p.slot (bitmap (λ slot. slot_bit (record { place = length before; kind = BoolMeta }) (row_at table.rows p.chunk slot)) table.schema.chunk_size) ≡ Some (is_one x)
      bit_back k =
          bit_there (λ slot. slot_bit (record { place = length before; kind = BoolMeta }) (row_at table.rows p.chunk slot)) table.schema.chunk_size p.slot fits.eights small.1
          ∙ ap (λ o. Some (slot_bit (record { place = length before; kind = BoolMeta }) o)) here

      partition_is : is_partition column.kind ≡ true → slice_get (partition_of columns p.row.values) (count_of is_partition before) ≡ Some x
      partition_is is = ap (λ l. slice_get (partition_of l p.row.values) (count_of is_partition before)) (sym split) ∙ partition_there before after column p.row.values is x_in

      value_back : (kind : Kind) → column.kind ≡ kind → value_of row (alike_before kind before) kind ≡ Some x
      value_back IntKey k = ap Some (ap Int (sym (rowid_is table.rows rowid p e)) ∙ as_key p.row.rowid x (x_valid IntKey k))
      value_back TextKey k =
          let t = as_id p.row.rowid x (x_valid TextKey k) in
          let few : count_of is_key (before ++ column ∷ after) ≤ 1 = (let same = ap (count_of is_key) split in let most = fits.keys in omega (arith, same, most)) in
          let id = id_there before after column p.row.values t.0 k few x_in t.1.0 in
          ap text_in (sym (ap (λ l. id_bytes l p.row.values) split) ∙ id) ∙ text_back t.0 (subst IsRepresentable t.1.0 x_held) ∙ ap Some (sym t.1.0)
      value_back (Int8Vector w m) k =
          let t = as_int8 w m p.row.rowid x (x_valid (Int8Vector w m) k) in
          ap (λ o. option_map Int8 (option_and_then (cell_in w p.slot) o)) (vector_record _ _ (there is_vector (Int8Vector w m) k refl))
          ∙ ap (option_map Int8) (cell_back (Int8Vector w m) k (λ i y ok. (let u = as_int8 w m i y ok in ap (λ z. length (value_cell z)) u.1.0 ∙ u.1.1)) ∙ ap (λ z. Some (value_cell z)) t.1.0) ∙ ap Some (sym t.1.0)
      value_back (BitVector w) k =
          let t = as_bits w p.row.rowid x (x_valid (BitVector w) k) in
          ap (λ o. option_map Bits (option_and_then (cell_in (w / 8) p.slot) o)) (vector_record _ _ (there is_vector (BitVector w) k refl))
          ∙ ap (option_map Bits) (cell_back (BitVector w) k (λ i y ok. (let u = as_bits w i y ok in ap (λ z. length (value_cell z)) u.1.0 ∙ u.1.1)) ∙ ap (λ z. Some (value_cell z)) t.1.0) ∙ ap Some (sym t.1.0)
      value_back IntPartition k = partition_is (ap is_partition k)
      value_back TextPartition k = partition_is (ap is_partition k)
      value_back IntMeta k =
          let t = as_int p.row.rowid x (x_valid IntMeta k) in
          ap (λ o. option_and_then int_in (option_and_then (cell_in 8 p.slot) o)) (metadata_record _ _ (there is_metadata IntMeta k refl))
          ∙ ap (option_and_then int_in) (cell_back IntMeta k (λ i y ok. (let u = as_int i y ok in ap (λ z. length (value_cell z)) u.1)) ∙ ap (λ z. Some (value_cell z)) t.1)
          ∙ int_back t.0 (subst IsRepresentable t.1 x_held) ∙ ap Some (sym t.1)
      value_back TextMeta k =
          let t = as_text p.row.rowid x (x_valid TextMeta k) in
          let at = there is_metadata TextMeta k refl in
          ap (λ o. option_and_then (viewed_text (row_record row 6 (count_of is_metadata before))) (option_and_then (cell_in 16 p.slot) o)) (metadata_record _ _ at)
          ∙ ap₂ (λ long cell. option_and_then (viewed_text long) cell) (long_record _ _ at ∙ ap long_text t.1.0)
          (cell_back TextMeta k (λ i y ok. (let u = as_text i y ok in ap (λ z. length (value_cell z)) u.1.0 ∙ length_view u.0)) ∙ ap (λ z. Some (value_cell z)) t.1.0)
          ∙ view_back t.0 t.1.1 (subst IsRepresentable t.1.0 x_held) ∙ ap Some (sym t.1.0)
      value_back BoolMeta k =
          ap (λ o. option_and_then (bool_in p.slot) o) (metadata_record _ _ (there is_metadata BoolMeta k refl))
          ∙ ap (option_map bool_of) (bit_back k)
          ∙ ap Some (as_bool p.row.rowid x (x_valid BoolMeta k))
      value_back IntAux k = ap (side_value int_in) (side_record _ _ (there is_auxiliary IntAux k refl)) ∙ int_side_back p.row.rowid x (x_valid IntAux k) x_held
      value_back TextAux k = ap (side_value text_in) (side_record _ _ (there is_auxiliary TextAux k refl)) ∙ text_side_back p.row.rowid x (x_valid TextAux k) x_held
      value_back BlobAux k = ap (side_value blob_in) (side_record _ _ (there is_auxiliary BlobAux k refl)) ∙ blob_side_back p.row.rowid x (x_valid BlobAux k)

    -- all values are read back
    values_back : (before after : List Column) → before ++ after ≡ columns → values_of row before after ≡ Some (drop (length before) p.row.values)
    values_back before [] split =
        let whole : length p.row.values ≡ length before = valid_length columns p.row.rowid p.row.values (valid_of rowid p e) ∙ ap length (sym split ∙ append-nil before) in
        ap Some (sym (drop_all p.row.values (length before) whole)) where
          drop_all : (xs : List Value) (k : ℕ) → length xs ≡ k → drop k xs ≡ []
          drop_all [] zero h = refl
          drop_all [] (suc k) h = refl
          drop_all (y ∷ ys) zero h = absurd (omega arith)
          drop_all (y ∷ ys) (suc k) h = drop_all ys k (omega arith)
    values_back before (column ∷ after) split =
        let rest = values_back (before ++ column ∷ []) after (append_assoc before (column ∷ []) after ∙ split) in
        let longer : length (before ++ column ∷ []) ≡ suc (length before) = length-append before (column ∷ []) ∙ omega arith in
        ap₂ joined (value_back before after column split column.kind refl) (rest ∙ ap (λ k. Some (drop k p.row.values)) longer)
        ∙ ap Some (sym (drop-cons p.row.values (length before) Null (x_in before after column split)))

    of_own_chunk : (b : ℤ) (bytes : List ℕ) → of_first (chunk_body table p.chunk b) (first_in table.rows p.chunk) ≡ Some bytes → read (key_of number 2 (pos p.chunk) b) ≡ Some bytes
    of_own_chunk b bytes is = are (key_of number 2 (pos p.chunk) b) refl ∙ is

    has_both : has_slot_records read number p.chunk ≡ true
    has_both = rw (of_own_chunk (pos 1) _ (ap (of_first (chunk_body table p.chunk (pos 1))) first.is), of_own_chunk (pos 2) _ (ap (of_first (chunk_body table p.chunk (pos 2))) first.is)) refl

    partition_read : option_and_then (partition_in columns) (read (key_of number 2 (pos p.chunk) (pos 0))) ≡ Some (partition_of columns p.row.values)
    partition_read =
        ap (option_and_then (partition_in columns)) (of_own_chunk (pos 0) (flat_map partition_value_bytes (partition_of columns first.row.row.values)) (ap (of_first (chunk_body table p.chunk (pos 0))) first.is))
        ∙ ap (λ l. partition_in columns (flat_map partition_value_bytes l)) first.alike
        ∙ partition_back columns p.row.rowid p.row.values (valid_of rowid p e) held.values

    row_back : decoded_from read number columns rowid (Some body) ≡ Some p
    row_back =
        ap (at_place read number columns rowid (id_bytes columns p.row.values)) place_is
        ∙ ap (λ b. cond b (with_partition read number columns rowid (id_bytes columns p.row.values) (p.chunk, p.slot) (option_and_then (partition_in columns) (read (key_of number 2 (pos p.chunk) (pos 0))))) None) has_both
        ∙ ap (with_partition read number columns rowid (id_bytes columns p.row.values) (p.chunk, p.slot)) partition_read
        ∙ ap (option_map (placed_row rowid (p.chunk, p.slot))) (values_back [] columns refl)
        ∙ same_row rowid p.row.rowid p.chunk p.chunk p.slot p.slot p.row.values (sym (rowid_is table.rows rowid p e)) refl refl

  -- the row that the records show is the table's
  pub decoded_is : (rowid : ℤ) → decoded read number columns rowid ≡ row_of table.rows rowid
  decoded_is rowid = ap (decoded_from read number columns rowid) (are (key_of number 3 rowid (pos 0)) refl) ∙ at (row_of table.rows rowid) refl where
    at : (r : Option PlacedRow) → row_of table.rows rowid ≡ r → decoded_from read number columns rowid (place_body columns r) ≡ r
    at None e = refl
    at (Some p) e = row_back rowid p e
