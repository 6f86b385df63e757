-- Values that are read column by column.
use Rattle.std.proofs.Common.{◌≡◌, ℕ, zero, suc, ◌+◌, ◌<◌, List, [], ◌∷◌, ◌++◌, length, length-append, ◌==◌, get_or, take, drop, drop-cons, cond, Bool, true, false, refl, sym, ap, ap₂, ◌∙◌, arith, append_assoc, ℤ, pos}
use Rattle.std.specs.declared.option.Option.{Option}
use Rattle.std.specs.declared.option.Option.TheVariants.{Some, None}
use Rattle.std.specs.List.{slice_get}
use Rattle.std.specs.Option.{option_and_then, option_map}
use Rattle.std.proofs.lemmas.Bool.{false≢true}
use Rattle.vec_base.specs.declared.shadow.ShadowKey.{ShadowKey}
use Rattle.vec_base.specs.declared.value.Value.{Value}
use Rattle.row_model.specs.declared.schema.Column.{Column}
use Rattle.row_model.specs.declared.schema.Kind.{Kind}
use Rattle.row_model.specs.declared.schema.Kind.TheVariants.{IntKey, TextKey, Int8Vector, BitVector, IntPartition, TextPartition, IntMeta, TextMeta, BoolMeta, IntAux, TextAux, BlobAux}
use Rattle.row_model.specs.Schemas.{is_partition, count_of}
use Rattle.shadow_records.specs.Keys.{key_of}
use Rattle.shadow_records.specs.PlacedTables.{PlacedRow}
use Rattle.record_bodies.specs.Bodies.{id_in, joined, place_in, partition_in, partition_value, partition_width}
use Rattle.record_bodies.specs.ReadRows.{RowSource, alike_before, at_place, decoded_from, has_slot_records, placed_row, value_of, values_of, with_partition}
use Rattle.record_bodies.specs.inner.InTurn.{behind_items, values_in_turn}
use Rattle.record_bodies.proofs.ColumnLaws.{count_last}

-- the columns from a place on
pub columns_from : (columns : List Column) (i : ℕ) (column : Column) → i < length columns → column ≡ get_or columns i column → drop i columns ≡ column ∷ drop (i + 1) columns
columns_from columns i column lt is = drop-cons columns i column lt ∙ ap₂ (λ c k. c ∷ drop k columns) (sym is) next where
  next : suc i ≡ i + 1
  next = omega arith

-- one item more
pub item_more : {X : Type 0} (items : List X) (x : X) (more : Option (List X)) → behind_items (items ++ x ∷ []) more ≡ behind_items items (joined (Some x) more)
item_more items x None = refl
item_more items x (Some others) = ap Some (append_assoc items (x ∷ []) others)

-- one partition value more
pub partition_more : (columns : List Column) (i : ℕ) (column : Column) (rest : List ℕ) (values : List Value) (x : Value) → i < length columns → column ≡ get_or columns i column → is_partition column.kind ≡ true →
    partition_value column.kind (take (partition_width column.kind rest) rest) ≡ Some x →
    behind_items (values ++ x ∷ []) (partition_in (drop (i + 1) columns) (drop (partition_width column.kind rest) rest)) ≡ behind_items values (partition_in (drop i columns) rest)
partition_more columns i column rest values x lt at is value =
    item_more values x (partition_in (drop (i + 1) columns) (drop (partition_width column.kind rest) rest))
    ∙ ap (λ o. behind_items values (joined o (partition_in (drop (i + 1) columns) (drop (partition_width column.kind rest) rest)))) (sym value)
    ∙ ap (behind_items values) (sym (ap (λ l. partition_in l rest) (columns_from columns i column lt at) ∙ whole))
  where
    whole : partition_in (column ∷ drop (i + 1) columns) rest ≡ joined (partition_value column.kind (take (partition_width column.kind rest) rest)) (partition_in (drop (i + 1) columns) (drop (partition_width column.kind rest) rest))
    whole = ap (λ b. cond b (joined (partition_value column.kind (take (partition_width column.kind rest) rest)) (partition_in (drop (i + 1) columns) (drop (partition_width column.kind rest) rest))) (partition_in (drop (i + 1) columns) rest)) is

-- another column has none
pub partition_passed : (columns : List Column) (i : ℕ) (column : Column) (rest : List ℕ) → i < length columns → column ≡ get_or columns i column → is_partition column.kind ≡ false →
    partition_in (drop (i + 1) columns) rest ≡ partition_in (drop i columns) rest
partition_passed columns i column rest lt at is = sym (ap (λ l. partition_in l rest) (columns_from columns i column lt at) ∙ whole) where
  whole : partition_in (column ∷ drop (i + 1) columns) rest ≡ partition_in (drop (i + 1) columns) rest
  whole = ap (λ b. cond b (joined (partition_value column.kind (take (partition_width column.kind rest) rest)) (partition_in (drop (i + 1) columns) (drop (partition_width column.kind rest) rest))) (partition_in (drop (i + 1) columns) rest)) is

-- ---- partition values in turn

-- the same row with other partition values
abbrev with_values : RowSource → List Value → RowSource
with_values row partition = record { read = row.read; number = row.number; rowid = row.rowid; chunk = row.chunk; slot = row.slot; id = row.id; partition = partition }

no_width : (kind : Kind) (bytes : List ℕ) → is_partition kind ≡ false → partition_width kind bytes ≡ 0
no_width IntKey bytes e = refl
no_width TextKey bytes e = refl
no_width (Int8Vector w m) bytes e = refl
no_width (BitVector w) bytes e = refl
no_width IntPartition bytes e = absurd (false≢true (sym e))
no_width TextPartition bytes e = absurd (false≢true (sym e))
no_width IntMeta bytes e = refl
no_width TextMeta bytes e = refl
no_width BoolMeta bytes e = refl
no_width IntAux bytes e = refl
no_width TextAux bytes e = refl
no_width BlobAux bytes e = refl

-- other columns do not ask for partition values
other_value : (row : RowSource) (partition : List Value) (before : ℕ) (kind : Kind) → is_partition kind ≡ false → value_of row before kind ≡ value_of (with_values row partition) before kind
other_value row partition before IntKey e = refl
other_value row partition before TextKey e = refl
other_value row partition before (Int8Vector w m) e = refl
other_value row partition before (BitVector w) e = refl
other_value row partition before IntPartition e = absurd (false≢true (sym e))
other_value row partition before TextPartition e = absurd (false≢true (sym e))
other_value row partition before IntMeta e = refl
other_value row partition before TextMeta e = refl
other_value row partition before BoolMeta e = refl
other_value row partition before IntAux e = refl
other_value row partition before TextAux e = refl
other_value row partition before BlobAux e = refl

get_next : (front : List Value) (x : Value) (values : List Value) (k : ℕ) → length front ≡ k → slice_get (front ++ x ∷ values) k ≡ Some x
get_next [] x values zero e = refl
get_next [] x values (suc k) e = absurd (omega arith)
get_next (y ∷ front) x values zero e = absurd (omega arith)
get_next (y ∷ front) x values (suc k) e = get_next front x values k (omega arith)

next_value : (row : RowSource) (front : List Value) (x : Value) (values : List Value) (before : List Column) (kind : Kind) → is_partition kind ≡ true → length front ≡ count_of is_partition before →
    Some x ≡ value_of (with_values row (front ++ x ∷ values)) (alike_before kind before) kind
next_value row front x values before IntKey e long = absurd (false≢true e)
next_value row front x values before TextKey e long = absurd (false≢true e)
next_value row front x values before (Int8Vector w m) e long = absurd (false≢true e)
next_value row front x values before (BitVector w) e long = absurd (false≢true e)
next_value row front x values before IntPartition e long = sym (get_next front x values (count_of is_partition before) long)
next_value row front x values before TextPartition e long = sym (get_next front x values (count_of is_partition before) long)
next_value row front x values before IntMeta e long = absurd (false≢true e)
next_value row front x values before TextMeta e long = absurd (false≢true e)
next_value row front x values before BoolMeta e long = absurd (false≢true e)
next_value row front x values before IntAux e long = absurd (false≢true e)
next_value row front x values before TextAux e long = absurd (false≢true e)
next_value row front x values before BlobAux e long = absurd (false≢true e)

-- the values in the columns behind those before, whose partition values are the front
abbrev values_behind : RowSource → List Value → List Column → List Column → Option (List Value) → Option (List Value)
values_behind row front before columns None = None
values_behind row front before columns (Some values) = values_of (with_values row (front ++ values)) before columns

abbrev one_if : Bool → ℕ
one_if b = cond b 1 0

no_joined : (o : Option Value) → joined o None ≡ None
no_joined None = refl
no_joined (Some x) = refl

-- taking partition values off the front of their bytes gives those that the whole bytes say
pub in_turn : (row : RowSource) (front : List Value) (before : List Column) (bytes : List ℕ) (columns : List Column) → length front ≡ count_of is_partition before →
    values_in_turn row before bytes columns ≡ values_behind row front before columns (partition_in columns bytes)
in_turn row front before bytes [] long = by (length bytes == 0) where
  by : (b : Bool) → cond b (Some []) None ≡ values_behind row front before [] (cond b (Some []) None)
  by true = refl
  by false = refl
in_turn row front before bytes (column ∷ columns) long =
    by (is_partition column.kind) refl
    (λ x e. in_turn row (front ++ x ∷ []) (before ++ column ∷ []) (drop (partition_width column.kind bytes) bytes) columns (longer x e))
    (λ e. in_turn row front (before ++ column ∷ []) bytes columns (same e))
  where
    longer : (x : Value) → is_partition column.kind ≡ true → length (front ++ x ∷ []) ≡ count_of is_partition (before ++ column ∷ [])
    longer x e =
        let more = count_last is_partition before column in
        let one = ap one_if e in
        let sum = length-append front (x ∷ []) in
        omega (arith, more, one, sum, long)

    same : is_partition column.kind ≡ false → length front ≡ count_of is_partition (before ++ column ∷ [])
    same e =
        let more = count_last is_partition before column in
        let none = ap one_if e in
        omega (arith, more, none, long)

    by : (b : Bool) → is_partition column.kind ≡ b →
        ((x : Value) → is_partition column.kind ≡ true →
        values_in_turn row (before ++ column ∷ []) (drop (partition_width column.kind bytes) bytes) columns
        ≡ values_behind row (front ++ x ∷ []) (before ++ column ∷ []) columns (partition_in columns (drop (partition_width column.kind bytes) bytes))) →
        (is_partition column.kind ≡ false → values_in_turn row (before ++ column ∷ []) bytes columns ≡ values_behind row front (before ++ column ∷ []) columns (partition_in columns bytes)) →
        values_in_turn row before bytes (column ∷ columns) ≡ values_behind row front before (column ∷ columns) (partition_in (column ∷ columns) bytes)
    by true e more other =
        ap (λ b. joined (cond b (partition_value column.kind (take (partition_width column.kind bytes) bytes)) (value_of row (alike_before column.kind before) column.kind))
        (values_in_turn row (before ++ column ∷ []) (drop (partition_width column.kind bytes) bytes) columns)) e
        ∙ one (partition_value column.kind (take (partition_width column.kind bytes) bytes))
        ∙ sym (ap (λ b. values_behind row front before (column ∷ columns)
        (cond b (joined (partition_value column.kind (take (partition_width column.kind bytes) bytes)) (partition_in columns (drop (partition_width column.kind bytes) bytes))) (partition_in columns bytes))) e)
      where
        two : (x : Value) (r : Option (List Value)) → joined (Some x) (values_behind row (front ++ x ∷ []) (before ++ column ∷ []) columns r) ≡ values_behind row front before (column ∷ columns) (joined (Some x) r)
        two x None = refl
        two x (Some values) =
            ap₂ (λ o all. joined o (values_of (with_values row all) (before ++ column ∷ []) columns)) (next_value row front x values before column.kind e long) (append_assoc front (x ∷ []) values)

        one : (o : Option Value) → joined o (values_in_turn row (before ++ column ∷ []) (drop (partition_width column.kind bytes) bytes) columns)
            ≡ values_behind row front before (column ∷ columns) (joined o (partition_in columns (drop (partition_width column.kind bytes) bytes)))
        one None = refl
        one (Some x) = ap (joined (Some x)) (more x e) ∙ two x (partition_in columns (drop (partition_width column.kind bytes) bytes))
    by false e more other =
        ap₂ (λ b n. joined (cond b (partition_value column.kind (take n bytes)) (value_of row (alike_before column.kind before) column.kind))
        (values_in_turn row (before ++ column ∷ []) (drop n bytes) columns)) e (no_width column.kind bytes e)
        ∙ ap (joined (value_of row (alike_before column.kind before) column.kind)) (other e)
        ∙ two (partition_in columns bytes)
        ∙ sym (ap (λ b. values_behind row front before (column ∷ columns)
        (cond b (joined (partition_value column.kind (take (partition_width column.kind bytes) bytes)) (partition_in columns (drop (partition_width column.kind bytes) bytes))) (partition_in columns bytes))) e)
      where
        two : (r : Option (List Value)) → joined (value_of row (alike_before column.kind before) column.kind) (values_behind row front (before ++ column ∷ []) columns r)
            ≡ values_behind row front before (column ∷ columns) r
        two None = no_joined (value_of row (alike_before column.kind before) column.kind)
        two (Some values) =
            ap (λ o. joined o (values_of (with_values row (front ++ values)) (before ++ column ∷ []) columns)) (other_value row (front ++ values) (alike_before column.kind before) column.kind e)

-- ---- whole rows

module _ (read : ShadowKey → Option (List ℕ)) (number : ℕ) (columns : List Column) (rowid : ℤ) (body : List ℕ) (place : ℕ × ℕ) (there : place_in body ≡ Some place) where
  abbrev source : RowSource
  source = record { read = read; number = number; rowid = rowid; chunk = place.0; slot = place.1; id = id_in body; partition = [] }

  abbrev partition_body : Option (List ℕ)
  partition_body = cond (has_slot_records read number place.0) (read (key_of number 2 (pos place.0) (pos 0))) None

  by_place : decoded_from read number columns rowid (Some body) ≡ at_place read number columns rowid (id_in body) (Some place)
  by_place = ap (at_place read number columns rowid (id_in body)) there

  abbrev with_body : Option (List ℕ) → Option PlacedRow
  with_body o = with_partition read number columns rowid (id_in body) place (option_and_then (partition_in columns) o)

  by_partition : at_place read number columns rowid (id_in body) (Some place) ≡ with_body partition_body
  by_partition = by (has_slot_records read number place.0) where
    by : (b : Bool) → cond b (with_body (read (key_of number 2 (pos place.0) (pos 0)))) None ≡ with_body (cond b (read (key_of number 2 (pos place.0) (pos 0))) None)
    by true = refl
    by false = refl

  -- no row, where one of the chunk's own records is missing
  pub no_row : partition_body ≡ None → None ≡ decoded_from read number columns rowid (Some body)
  no_row e = sym (by_place ∙ by_partition ∙ ap with_body e)

  -- the row whose values are read in turn
  pub row_in_turn : (bytes : List ℕ) → partition_body ≡ Some bytes → option_map (placed_row rowid place) (values_in_turn source [] bytes columns) ≡ decoded_from read number columns rowid (Some body)
  row_in_turn bytes e = sym (by_place ∙ by_partition ∙ ap with_body e ∙ whole (partition_in columns bytes) ∙ sym (ap (option_map (placed_row rowid place)) (in_turn source [] [] bytes columns refl))) where
    whole : (o : Option (List Value)) → with_partition read number columns rowid (id_in body) place o ≡ option_map (placed_row rowid place) (values_behind source [] [] columns o)
    whole None = refl
    whole (Some values) = refl
