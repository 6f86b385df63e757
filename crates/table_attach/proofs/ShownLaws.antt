-- What stands where records show a row.
use Rattle.std.proofs.Common.{◌≡◌, ℕ, zero, suc, ◌+◌, ℤ, pos, Bool, true, false, cond, List, [], ◌∷◌, ◌++◌, length, get_or, refl, sym, ap, ◌∙◌, arith, append_assoc, Some, None}
use Rattle.std.specs.Prelude.{is_some}
use Rattle.std.specs.Option.{option_and_then, option_map}
use Rattle.std.specs.declared.option.Option.{Option}
use Rattle.vec_base.specs.declared.shadow.ShadowKey.{ShadowKey}
use Rattle.vec_base.specs.declared.value.Value.{Value}
use Rattle.vec_base.specs.declared.value.Value.TheVariants.{Null}
use Rattle.record_bodies.specs.Bodies.{id_in, joined, partition_in, place_in}
use Rattle.record_bodies.specs.ReadRows.{RowSource, alike_before, at_place, decoded, decoded_from, has_slot_records, placed_row, value_of, values_of, with_partition}
use Rattle.record_bodies.proofs.ColumnLaws.{count_in, count_out}
use Rattle.record_bodies.proofs.FindLaws.{some_is}
use Rattle.row_model.specs.Schemas.{count_of}
use Rattle.row_model.specs.declared.schema.Column.{Column}
use Rattle.row_model.specs.declared.schema.Kind.{Kind}
use Rattle.shadow_records.specs.Keys.{key_of}
use Rattle.shadow_records.specs.PlacedTables.{PlacedRow}
use Rattle.shadow_records.specs.Records.{ColumnAt, nth_column}
use Rattle.shadow_records.specs.declared.kinds.TheConstants.{CHUNK_RECORDS, ROW_RECORDS}

-- ---- values

record IsJoined (first : Option Value) (rest : Option (List Value)) (values : List Value) : Type 0 where
  pub value : Value
  pub more : List Value
  pub first_is : first ≡ Some value
  pub rest_is : rest ≡ Some more
  pub whole : values ≡ value ∷ more

joined-some : (first : Option Value) (rest : Option (List Value)) (values : List Value) → joined first rest ≡ Some values → IsJoined first rest values
joined-some None rest values e = absurd cc
joined-some (Some x) None values e = absurd cc
joined-some (Some x) (Some xs) values e = record { value = x; more = xs; first_is = refl; rest_is = refl; whole = sym (some_is e) }

append-none : {X : Type 0} (xs : List X) → xs ++ [] ≡ xs
append-none [] = refl
append-none (x ∷ xs) = ap (λ l. x ∷ l) (append-none xs)

-- each value is what its column's records show
pub value-shown : (row : RowSource) (before middle after : List Column) (column : Column) (values : List Value) → values_of row before (middle ++ column ∷ after) ≡ Some values →
    value_of row (alike_before column.kind (before ++ middle)) column.kind ≡ Some (get_or values (length middle) Null)
value-shown row before [] after column values e =
    let j = joined-some (value_of row (alike_before column.kind before) column.kind) (values_of row (before ++ column ∷ []) after) values e in
    ap (λ l. value_of row (alike_before column.kind l) column.kind) (append-none before) ∙ j.first_is ∙ ap (λ l. Some (get_or l 0 Null)) (sym j.whole)
value-shown row before (m ∷ middle) after column values e =
    let j = joined-some (value_of row (alike_before m.kind before) m.kind) (values_of row (before ++ m ∷ []) (middle ++ column ∷ after)) values e in
    ap (λ l. value_of row (alike_before column.kind l) column.kind) (sym (append_assoc before (m ∷ []) middle))
    ∙ value-shown row (before ++ m ∷ []) middle after column j.more j.rest_is ∙ ap (λ l. Some (get_or l (suc (length middle)) Null)) (sym j.whole)

-- ---- rows

-- the records under which the row stands
pub record IsShown (read : ShadowKey → Option (List ℕ)) (number : ℕ) (columns : List Column) (rowid : ℤ) (p : PlacedRow) : Type 0 where
  pub source : RowSource
  pub reads : source.read ≡ read
  pub under : source.number ≡ number
  pub row : source.rowid ≡ rowid
  pub chunk : source.chunk ≡ p.chunk
  pub placed : is_some (read (key_of number ROW_RECORDS rowid (pos 0))) ≡ true
  pub part : is_some (read (key_of number CHUNK_RECORDS (pos p.chunk) (pos 0))) ≡ true
  pub both : has_slot_records read number p.chunk ≡ true
  pub values : values_of source [] columns ≡ Some p.row.values
  pub own : p.row.rowid ≡ rowid

pub shown-from : (read : ShadowKey → Option (List ℕ)) (number : ℕ) (columns : List Column) (rowid : ℤ) (p : PlacedRow) → decoded read number columns rowid ≡ Some p → IsShown read number columns rowid p
shown-from read number columns rowid p e = by_record (read (key_of number ROW_RECORDS rowid (pos 0))) refl e where
  by_record : (o : Option (List ℕ)) → read (key_of number ROW_RECORDS rowid (pos 0)) ≡ o → decoded_from read number columns rowid o ≡ Some p → IsShown read number columns rowid p
  by_record None is never = absurd cc
  by_record (Some body) is e = by_place (place_in body) e where
    by_place : (o : Option (ℕ × ℕ)) → at_place read number columns rowid (id_in body) o ≡ Some p → IsShown read number columns rowid p
    by_place None never = absurd cc
    by_place (Some place) e = by_slots (has_slot_records read number place.0) refl e where
      by_slots : (b : Bool) → has_slot_records read number place.0 ≡ b →
          cond b (with_partition read number columns rowid (id_in body) place (option_and_then (partition_in columns) (read (key_of number CHUNK_RECORDS (pos place.0) (pos 0))))) None ≡ Some p → IsShown read number columns rowid p
      by_slots false h never = absurd cc
      by_slots true h e = by_part (read (key_of number CHUNK_RECORDS (pos place.0) (pos 0))) refl e where
        by_part : (o : Option (List ℕ)) → read (key_of number CHUNK_RECORDS (pos place.0) (pos 0)) ≡ o → with_partition read number columns rowid (id_in body) place (option_and_then (partition_in columns) o) ≡ Some p → IsShown read number columns rowid p
        by_part None part never = absurd cc
        by_part (Some values_body) part e = by_values (partition_in columns values_body) e where
          by_values : (o : Option (List Value)) → with_partition read number columns rowid (id_in body) place o ≡ Some p → IsShown read number columns rowid p
          by_values None never = absurd cc
          by_values (Some partition) e = made (values_of (source_of partition) [] columns) refl e where
            source_of : List Value → RowSource
            source_of values = record { read = read; number = number; rowid = rowid; chunk = place.0; slot = place.1; id = id_in body; partition = values }

            made : (o : Option (List Value)) → values_of (source_of partition) [] columns ≡ o → option_map (placed_row rowid place) o ≡ Some p → IsShown read number columns rowid p
            made None values never = absurd cc
            made (Some all) values e =
                let same : placed_row rowid place all ≡ p = some_is e in
                let chunk : place.0 ≡ p.chunk = ap (λ (x : PlacedRow). x.chunk) same in
                record {
                  source = source_of partition;
                  reads = refl;
                  under = refl;
                  row = refl;
                  chunk = chunk;
                  placed = ap is_some is;
                  part = ap (λ c. is_some (read (key_of number CHUNK_RECORDS (pos c) (pos 0)))) (sym chunk) ∙ ap is_some part;
                  both = ap (has_slot_records read number) (sym chunk) ∙ h;
                  values = values ∙ ap (λ (x : PlacedRow). Some x.row.values) same;
                  own = ap (λ (x : PlacedRow). x.row.rowid) (sym same);
                }

-- ---- columns

-- the columns before and behind one of a role
pub record IsSplit (sort : Kind → Bool) (from : ℕ) (columns : List Column) (before_count : ℕ) (at : ColumnAt) : Type 0 where
  pub before : List Column
  pub column : Column
  pub after : List Column
  pub whole : columns ≡ before ++ column ∷ after
  pub place : at.place ≡ from + length before
  pub kind_is : column.kind ≡ at.kind
  pub sorted : sort column.kind ≡ true
  pub count : before_count ≡ count_of sort before

pub column-split : (sort : Kind → Bool) (from : ℕ) (columns : List Column) (count : ℕ) (at : ColumnAt) → nth_column sort from columns count ≡ Some at → IsSplit sort from columns count at
column-split sort from [] zero at e = absurd cc
column-split sort from [] (suc count) at e = absurd cc
column-split sort from (c ∷ columns) zero at e = by_sort (λ later. column-split sort (suc from) columns zero at later) (sort c.kind) refl e where
  by_sort : (nth_column sort (suc from) columns zero ≡ Some at → IsSplit sort (suc from) columns zero at) → (b : Bool) → sort c.kind ≡ b →
      cond b (Some (record { place = from; kind = c.kind })) (nth_column sort (suc from) columns zero) ≡ Some at → IsSplit sort from (c ∷ columns) zero at
  by_sort rest true is e =
      let same : record { place = from; kind = c.kind } ≡ at = some_is e in
      let place : from ≡ at.place = ap (λ (x : ColumnAt). x.place) same in
      record { before = []; column = c; after = columns; whole = refl; place = omega (arith, place); kind_is = ap (λ (x : ColumnAt). x.kind) same; sorted = is; count = refl }
  by_sort rest false is e =
      let s = rest e in
      record { before = c ∷ s.before; column = s.column; after = s.after; whole = ap (λ l. c ∷ l) s.whole; place = omega (arith, s.place); kind_is = s.kind_is; sorted = s.sorted; count = s.count ∙ sym (count_out sort c s.before is) }
column-split sort from (c ∷ columns) (suc count) at e = by_sort (λ later. column-split sort (suc from) columns count at later) (λ later. column-split sort (suc from) columns (suc count) at later) (sort c.kind) refl e where
  by_sort : (nth_column sort (suc from) columns count ≡ Some at → IsSplit sort (suc from) columns count at) → (nth_column sort (suc from) columns (suc count) ≡ Some at → IsSplit sort (suc from) columns (suc count) at) → (b : Bool) → sort c.kind ≡ b →
      cond b (nth_column sort (suc from) columns count) (nth_column sort (suc from) columns (suc count)) ≡ Some at → IsSplit sort from (c ∷ columns) (suc count) at
  by_sort one other true is e =
      let s = one e in
      record { before = c ∷ s.before; column = s.column; after = s.after; whole = ap (λ l. c ∷ l) s.whole; place = omega (arith, s.place); kind_is = s.kind_is; sorted = s.sorted; count = ap suc s.count ∙ sym (count_in sort c s.before is) }
  by_sort one other false is e =
      let s = other e in
      record { before = c ∷ s.before; column = s.column; after = s.after; whole = ap (λ l. c ∷ l) s.whole; place = omega (arith, s.place); kind_is = s.kind_is; sorted = s.sorted; count = s.count ∙ sym (count_out sort c s.before is) }
