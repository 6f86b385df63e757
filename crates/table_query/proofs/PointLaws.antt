-- A row that meets an equality on the rowid or the key is the one that it is for.
use Rattle.std.proofs.Common.{◌≡◌, ℕ, ℤ, zero, suc, ◌-◌, ◌+◌, ◌<◌, ◌≤◌, Bool, true, false, cond, List, [], ◌∷◌, length, get_or, refl, sym, ap, ap₂, subst, ◌∙◌, arith, Option, inl, inr, Some, None, bytes_eq}
use Rattle.std.specs.Prelude.{⊤, int_lt, not, ◌||◌, filter, find, is_some, nat_lt, position, slice_index_or, if◌then◌else◌}
use Rattle.std.specs.List.{AllByRecursion, list_all, list_any, slice_get}
use Rattle.std.specs.Option.{option_map}
use Rattle.std.specs.Ordering.{int_eq}
use Rattle.std.specs.Cmp.Lexicographic.{texts_ties}
use Rattle.std.proofs.lemmas.Bool.{and_parts, cases_Bool, cond-true, cond-false, ltb-false}
use Rattle.std.proofs.lemmas.Int.{ints}
use Rattle.std.proofs.lemmas.List.Quantifiers.{position-Some}
use Rattle.std.proofs.lemmas.Option.{get_or_from_slice_get, slice_get-get_or}
use Rattle.std.proofs.lemmas.Slice.Eq.{bytes_eq-Decides}
use Rattle.vec_base.specs.Comparison.{satisfies}
use Rattle.vec_base.specs.declared.value.Op.TheVariants.{Eq, Ne, Lt, Le, Gt, Ge}
use Rattle.vec_base.specs.declared.value.Value.{Value}
use Rattle.vec_base.specs.declared.value.Value.TheVariants.{Null, Int, Text, Blob, Int8, Bits}
use Rattle.row_model.specs.Answer.{is_equality, is_point_term}
use Rattle.row_model.specs.Change.{same_id}
use Rattle.row_model.specs.Check.{is_nearest, test_values}
use Rattle.row_model.specs.ColumnNames.{column_number, declared_place, is_count, is_rowid_or_key, is_text_key, place_of}
use Rattle.row_model.specs.Rows.{is_rising}
use Rattle.row_model.specs.Schemas.{count_of, is_key}
use Rattle.row_model.specs.Valid.{are_valid_values, have_own_ids, is_valid_row}
use Rattle.row_model.specs.Values.{is_of_type, meets, meets_all, met, passes, value_at}
use Rattle.row_model.specs.declared.request.Shape.TheVariants.{Point}
use Rattle.row_model.specs.declared.row.Row.{Row}
use Rattle.row_model.specs.declared.schema.Column.{Column}
use Rattle.row_model.specs.declared.schema.Kind.TheVariants.{IntKey, TextKey, Int8Vector, BitVector, IntPartition, TextPartition, IntMeta, TextMeta, BoolMeta, IntAux, TextAux, BlobAux}
use Rattle.row_model.specs.declared.schema.Place.{Place}
use Rattle.row_model.specs.declared.schema.Place.TheVariants.{Unknown, Rowid, Declared, Count, Distance}
use Rattle.row_model.specs.declared.statement.Constraint.{Constraint}
use Rattle.row_model.specs.declared.statement.Test.{Test}
use Rattle.row_model.specs.declared.statement.Test.TheVariants.{Compare, Member, Match}
use Rattle.row_model.proofs.BoolLaws.{not_true, or_first, or_second}
use Rattle.row_model.proofs.SchemaLaws.{declared_from, declared_sort, faultless, kind_at, place_declared}
use Rattle.knn_plan.proofs.PlanLaws.{point_there}
use Rattle.knn_plan.proofs.RowidLaws.{point_rowid}
use Rattle.knn_plan.proofs.TermLaws.{IsTermFor, terms_fit}
use Rattle.knn_plan.specs.Plans.{IsPlanFor, Planned}
use Rattle.knn_plan.specs.TermUses.{is_rowid}
use Rattle.row_store.specs.Keyed.{keys_rise}
use Rattle.row_store.specs.StoredRows.{has_text}
use Rattle.shadow_records.specs.PlacedTables.{IsPlaced, PlacedRow, PlacedTable, plain_rows, row_of}
use Rattle.table_query.specs.Met.{is_met, next_met, rowid_of}
use Rattle.table_query.specs.Said.{rowid_for, rowid_said}
use Rattle.table_query.proofs.FindLaws.{found_by_key, found_passes, mapped_some}
use Rattle.table_query.proofs.ScanLaws.{from_rows, placed_rise}
use Rattle.table_version.proofs.WeavingLaws.{fewer_keys, no_id_behind, same_id-texts}
use Rattle.table_version.specs.Kept.{id_in, is_one_id, text_in}
use Rattle.table_version.specs.Versions.{row_with_id, rowid_in}

-- ---- one row at most passes a test

-- behind an element that passes none passes
abbrev IsAlone : (PlacedRow → Bool) → List PlacedRow → Type 0
IsAlone test [] = ⊤
IsAlone test (p ∷ ps) = (test p ≡ true → list_any test ps ≡ false) × IsAlone test ps

-- the row that was found, if it is such a row
abbrev such_of : (Row → Bool) → Option PlacedRow → Option Row
such_of such None = None
such_of such (Some p) = cond (such p.row) (Some p.row) None

nowhere : (such : Row → Bool) (test : PlacedRow → Bool) (ps : List PlacedRow) → AllByRecursion (λ (p : PlacedRow). such p.row ≡ true → test p ≡ true) ps → list_any test ps ≡ false → from_rows such None ps ≡ None
nowhere such test [] each none = refl
nowhere such test (p ∷ ps) each none = by_such (such p.row) refl (nowhere such test ps each.1 (or_second (test p) (list_any test ps) none)) where
  by_such : (b : Bool) → such p.row ≡ b → from_rows such None ps ≡ None → from_rows such None (p ∷ ps) ≡ None
  by_such true e rest = let here : test p ≡ true = each.0 e in let gone : (true || list_any test ps) ≡ false = ap (λ b. b || list_any test ps) (sym here) ∙ none in absurd cc
  by_such false e rest = ap (λ b. find (λ (r : Row). true) (cond b (p.row ∷ filter such (plain_rows ps)) (filter such (plain_rows ps)))) e ∙ rest

-- where such rows pass the test, the first of them is what the test finds
only_row : (such : Row → Bool) (test : PlacedRow → Bool) (ps : List PlacedRow) → AllByRecursion (λ (p : PlacedRow). such p.row ≡ true → test p ≡ true) ps → IsAlone test ps →
    from_rows such None ps ≡ such_of such (find test ps)
only_row such test [] each alone = refl
only_row such test (p ∷ ps) each alone = by_test (such p.row) (test p) refl refl (only_row such test ps each.1 alone.1) where
  by_test : (b c : Bool) → such p.row ≡ b → test p ≡ c → from_rows such None ps ≡ such_of such (find test ps) → from_rows such None (p ∷ ps) ≡ such_of such (find test (p ∷ ps))
  by_test true c e f rest =
      ap (λ b. find (λ (r : Row). true) (cond b (p.row ∷ filter such (plain_rows ps)) (filter such (plain_rows ps)))) e
      ∙ sym (ap (such_of such) (cond-true _ _ _ (each.0 e)) ∙ ap (λ b. cond b (Some p.row) None) e)
  by_test false true e f rest =
      ap (λ b. find (λ (r : Row). true) (cond b (p.row ∷ filter such (plain_rows ps)) (filter such (plain_rows ps)))) e
      ∙ nowhere such test ps each.1 (alone.0 f) ∙ sym (ap (such_of such) (cond-true _ _ _ f) ∙ ap (λ b. cond b (Some p.row) None) e)
  by_test false false e f rest =
      ap (λ b. find (λ (r : Row). true) (cond b (p.row ∷ filter such (plain_rows ps)) (filter such (plain_rows ps)))) e
      ∙ rest ∙ sym (ap (such_of such) (cond-false _ _ _ f))

-- ---- what is known of the rowid that is said

-- the row that meets all terms, if there is one, is the row of this rowid
record IsFor (columns : List Column) (terms : List Constraint) (rows : List PlacedRow) (rowid : Option ℤ) : Type 0 where
  test : PlacedRow → Bool
  each : AllByRecursion (λ (p : PlacedRow). meets_all columns terms p.row ≡ true → test p ≡ true) rows
  alone : IsAlone test rows
  nowhere : rowid ≡ None → find test rows ≡ None
  there : (i : ℤ) → rowid ≡ Some i → find test rows ≡ row_of rows i

eq_from : (a b : ℤ) → int_eq a b ≡ true → a ≡ b
eq_from a b h = grind (arith, ints)

eq_to : (a b : ℤ) → a ≡ b → int_eq a b ≡ true
eq_to a b h = grind (arith, ints)

lt_none : (i j n : ℤ) → int_lt i j ≡ true → int_eq i n ≡ true → int_eq j n ≡ false
lt_none i j n lt eq = grind (arith, ints)

none_of : (i n : ℤ) (ps : List PlacedRow) → int_eq i n ≡ true → list_all (λ (p : PlacedRow). int_lt i p.row.rowid) ps ≡ true → list_any (λ (p : PlacedRow). int_eq p.row.rowid n) ps ≡ false
none_of i n [] own above = refl
none_of i n (p ∷ ps) own above =
    let parts = and_parts (int_lt i p.row.rowid) (list_all (λ (q : PlacedRow). int_lt i q.row.rowid) ps) above in
    ap₂ (λ a b. a || b) (lt_none i p.row.rowid n parts.0 own) (none_of i n ps own parts.1)

rowid_alone : (n : ℤ) (ps : List PlacedRow) → keys_rise rowid_in ps ≡ true → IsAlone (λ (p : PlacedRow). int_eq p.row.rowid n) ps
rowid_alone n [] rise = tt
rowid_alone n (p ∷ ps) rise =
    let parts = and_parts (list_all (λ (q : PlacedRow). int_lt p.row.rowid q.row.rowid) ps) (keys_rise rowid_in ps) rise in
    ((λ own. none_of p.row.rowid n ps own parts.0), rowid_alone n ps parts.1)

every : {A : Type 0} (P : A → Type 0) (xs : List A) → ((x : A) → P x) → AllByRecursion P xs
every P [] all = tt
every P (x ∷ xs) all = (all x, every P xs all)

-- an equality on the rowid
rowid_is : (columns : List Column) (terms : List Constraint) (rows : List PlacedRow) (place : Place) (n : ℤ) → is_rising (plain_rows rows) ≡ true → is_rowid place ≡ true →
    ((row : Row) → meets_all columns terms row ≡ true → passes (Compare Eq (Int n)) (value_at place row) ≡ true) → IsFor columns terms rows (Some n)
rowid_is columns terms rows place n rising is passed = record {
  test = λ p. int_eq p.row.rowid n;
  each = every (λ (p : PlacedRow). meets_all columns terms p.row ≡ true → int_eq p.row.rowid n ≡ true) rows (λ p met. eq_to p.row.rowid n (point_rowid n place p.row is (passed p.row met)));
  alone = rowid_alone n rows (sym (placed_rise rows) ∙ rising);
  nowhere = λ h. absurd cc;
  there = λ i h. let same : n ≡ i = cc in ap (row_of rows) same;
}

-- ---- an equality on a text key

-- the text key is the column of its name
key_at : (name : List ℕ) (n : ℕ) (columns : List Column) (number : ℕ) (rowid : ℤ) (values : List Value) → count_of is_key columns ≤ 1 → declared_place name n columns ≡ Declared number TextKey →
    are_valid_values columns rowid values ≡ true → id_in columns values ≡ text_in (slice_index_or values (number - n) Null)
key_at name n [] number rowid values few is valid = absurd cc
key_at name n (column ∷ columns) number rowid [] few is valid = absurd cc
key_at name n (column ∷ columns) number rowid (value ∷ values) few is valid =
    elim (bytes_eq column.name name) as (λ b. (if b then Declared n column.kind else declared_place name (n + 1) columns) ≡ Declared number TextKey →
    id_in (column ∷ columns) (value ∷ values) ≡ text_in (slice_index_or (value ∷ values) (number - n) Null)) [
      | true ↦ λ e.
          let same = ap column_number e in
          let here : number - n ≡ 0 = omega (arith, same) in
          let key : is_text_key column.kind ≡ true = ap is_text_key (ap kind_at e) in
          rw here (ap (λ b. if b then text_in value else id_in columns values) key)
      | false ↦ λ e.
          let above = declared_from name (n + 1) columns number TextKey e in
          let next : number - n ≡ suc (number - (n + 1)) = omega (arith, above) in
          let rest = key_at name (n + 1) columns number rowid values (fewer_keys column columns few) e (and_parts _ _ valid).1 in
          rw next (other_key e (is_text_key column.kind) refl ∙ rest)
    ] is
  where
    other_key : declared_place name (n + 1) columns ≡ Declared number TextKey → (b : Bool) → is_text_key column.kind ≡ b → (if b then text_in value else id_in columns values) ≡ id_in columns values
    other_key e true key = let none = declared_sort is_text_key name (n + 1) columns number TextKey (no_id_behind column columns few key) e in absurd cc
    other_key e false key = refl

equal_text : (text : List ℕ) (value : Value) → satisfies Eq value (Text text) ≡ true → has_text text (text_in value) ≡ true
equal_text text Null is = absurd cc
equal_text text (Int n) is = absurd cc
equal_text text (Text other) is = texts_ties other text ∙ is
equal_text text (Blob bytes) is = absurd cc
equal_text text (Int8 vector) is = absurd cc
equal_text text (Bits vector) is = absurd cc

-- of two rows with one text only one is there
one_text : (text : List ℕ) (o q : Option (List ℕ)) → has_text text o ≡ true → is_one_id o q ≡ false → has_text text q ≡ false
one_text text None q own none = absurd cc
one_text text (Some a) None own none = refl
one_text text (Some a) (Some b) own none =
    let same : a ≡ text = (bytes_eq-Decides a text).0 own in
    elim (cases_Bool (bytes_eq b text)) [
      | inl yes_it ↦ (let other : b ≡ text = (bytes_eq-Decides b text).0 yes_it in let equal : bytes_eq a b ≡ true = (bytes_eq-Decides a b).1 (same ∙ sym other) in absurd cc)
      | inr no_it ↦ no_it
    ]

none_with : (columns : List Column) (text : List ℕ) (row : Row) (ps : List PlacedRow) → nat_lt 1 (count_of is_key columns) ≡ false → is_valid_row columns row ≡ true → has_text text (id_in columns row.values) ≡ true →
    list_all (is_valid_row columns) (plain_rows ps) ≡ true → list_any (λ (later : Row). same_id columns row.values later.values) (plain_rows ps) ≡ false →
    list_any (λ (p : PlacedRow). has_text text (id_in columns p.row.values)) ps ≡ false
none_with columns text row [] few valid own all none = refl
none_with columns text row (p ∷ ps) few valid own all none =
    let parts = and_parts (is_valid_row columns p.row) (list_all (is_valid_row columns) (plain_rows ps)) all in
    let first = or_first (same_id columns row.values p.row.values) (list_any (λ (later : Row). same_id columns row.values later.values) (plain_rows ps)) none in
    let later = or_second (same_id columns row.values p.row.values) (list_any (λ (r : Row). same_id columns row.values r.values) (plain_rows ps)) none in
    let apart : is_one_id (id_in columns row.values) (id_in columns p.row.values) ≡ false = sym (same_id-texts columns row.rowid p.row.rowid row.values p.row.values few valid parts.0) ∙ first in
    ap₂ (λ a b. a || b) (one_text text (id_in columns row.values) (id_in columns p.row.values) own apart) (none_with columns text row ps few valid own parts.1 later)

text_alone : (columns : List Column) (text : List ℕ) (ps : List PlacedRow) → nat_lt 1 (count_of is_key columns) ≡ false → list_all (is_valid_row columns) (plain_rows ps) ≡ true →
    have_own_ids columns (plain_rows ps) ≡ true → IsAlone (λ (p : PlacedRow). has_text text (id_in columns p.row.values)) ps
text_alone columns text [] few all own = tt
text_alone columns text (p ∷ ps) few all own =
    let parts = and_parts (is_valid_row columns p.row) (list_all (is_valid_row columns) (plain_rows ps)) all in
    let ids = and_parts (not (list_any (λ (later : Row). same_id columns p.row.values later.values) (plain_rows ps))) (have_own_ids columns (plain_rows ps)) own in
    ((λ has. none_with columns text p.row ps few parts.0 has parts.1 (not_true _ ids.0)), text_alone columns text ps few parts.1 ids.1)

each_valid : (columns : List Column) (such : Row → Bool) (test : PlacedRow → Bool) (ps : List PlacedRow) → list_all (is_valid_row columns) (plain_rows ps) ≡ true →
    ((p : PlacedRow) → is_valid_row columns p.row ≡ true → such p.row ≡ true → test p ≡ true) → AllByRecursion (λ (p : PlacedRow). such p.row ≡ true → test p ≡ true) ps
each_valid columns such test [] all each = tt
each_valid columns such test (p ∷ ps) all each =
    let parts = and_parts (is_valid_row columns p.row) (list_all (is_valid_row columns) (plain_rows ps)) all in
    (each p parts.0, each_valid columns such test ps parts.1 each)

text_is : (columns : List Column) (terms : List Constraint) (rows : List PlacedRow) (name : List ℕ) (number : ℕ) (text : List ℕ) → nat_lt 1 (count_of is_key columns) ≡ false →
    list_all (is_valid_row columns) (plain_rows rows) ≡ true → is_rising (plain_rows rows) ≡ true → have_own_ids columns (plain_rows rows) ≡ true → place_of columns name ≡ Declared number TextKey →
    ((row : Row) → meets_all columns terms row ≡ true → passes (Compare Eq (Text text)) (value_at (Declared number TextKey) row) ≡ true) → IsFor columns terms rows (option_map rowid_in (row_with_id columns text rows))
text_is columns terms rows name number text few valid rising own is passed = record {
  test = λ p. has_text text (id_in columns p.row.values);
  each = each_valid columns (meets_all columns terms) (λ (p : PlacedRow). has_text text (id_in columns p.row.values)) rows valid (λ p here met.
      let keys = ltb-false 1 (count_of is_key columns) few in
      let at = key_at name 1 columns number p.row.rowid p.row.values (omega (arith, keys)) (place_declared columns name number TextKey is) here in
      ap (has_text text) at ∙ equal_text text (slice_index_or p.row.values (number - 1) Null) (passed p.row met));
  alone = text_alone columns text rows few valid own;
  nowhere = λ h. none_mapped (row_with_id columns text rows) h;
  there = λ i h. some_mapped (row_with_id columns text rows) refl i h;
} where
  none_mapped : (o : Option PlacedRow) → option_map rowid_in o ≡ None → o ≡ None
  none_mapped None h = refl
  none_mapped (Some p) h = absurd cc

  some_mapped : (o : Option PlacedRow) → row_with_id columns text rows ≡ o → (i : ℤ) → option_map rowid_in o ≡ Some i → o ≡ row_of rows i
  some_mapped None found i h = absurd cc
  some_mapped (Some p) found i h =
      let same : p.row.rowid ≡ i = cc in
      sym (found_by_key rowid_in (λ (q : PlacedRow). has_text text (id_in columns q.row.values)) rows p (sym (placed_rise rows) ∙ rising) found) ∙ ap (row_of rows) same

-- ---- the term

-- by the place that the term is on and its test
by_value : (columns : List Column) (terms : List Constraint) (rows : List PlacedRow) (name : List ℕ) (place : Place) (value : Value) → nat_lt 1 (count_of is_key columns) ≡ false →
    list_all (is_valid_row columns) (plain_rows rows) ≡ true → is_rising (plain_rows rows) ≡ true → have_own_ids columns (plain_rows rows) ≡ true → place_of columns name ≡ place →
    is_rowid_or_key place ≡ true → is_of_type place value ≡ true → ((row : Row) → meets_all columns terms row ≡ true → passes (Compare Eq value) (value_at place row) ≡ true) →
    IsFor columns terms rows (rowid_for columns rows value)
by_value columns terms rows name Unknown value few valid rising own is key typed passed = absurd cc
by_value columns terms rows name Rowid (Int n) few valid rising own is key typed passed = rowid_is columns terms rows Rowid n rising refl passed
by_value columns terms rows name Rowid Null few valid rising own is key typed passed = absurd cc
by_value columns terms rows name Rowid (Text text) few valid rising own is key typed passed = absurd cc
by_value columns terms rows name Rowid (Blob bytes) few valid rising own is key typed passed = absurd cc
by_value columns terms rows name Rowid (Int8 vector) few valid rising own is key typed passed = absurd cc
by_value columns terms rows name Rowid (Bits vector) few valid rising own is key typed passed = absurd cc
by_value columns terms rows name (Declared number IntKey) (Int n) few valid rising own is key typed passed = rowid_is columns terms rows (Declared number IntKey) n rising refl passed
by_value columns terms rows name (Declared number IntKey) Null few valid rising own is key typed passed = absurd cc
by_value columns terms rows name (Declared number IntKey) (Text text) few valid rising own is key typed passed = absurd cc
by_value columns terms rows name (Declared number IntKey) (Blob bytes) few valid rising own is key typed passed = absurd cc
by_value columns terms rows name (Declared number IntKey) (Int8 vector) few valid rising own is key typed passed = absurd cc
by_value columns terms rows name (Declared number IntKey) (Bits vector) few valid rising own is key typed passed = absurd cc
by_value columns terms rows name (Declared number TextKey) (Text text) few valid rising own is key typed passed = text_is columns terms rows name number text few valid rising own is passed
by_value columns terms rows name (Declared number TextKey) (Int n) few valid rising own is key typed passed = absurd cc
by_value columns terms rows name (Declared number TextKey) Null few valid rising own is key typed passed = absurd cc
by_value columns terms rows name (Declared number TextKey) (Blob bytes) few valid rising own is key typed passed = absurd cc
by_value columns terms rows name (Declared number TextKey) (Int8 vector) few valid rising own is key typed passed = absurd cc
by_value columns terms rows name (Declared number TextKey) (Bits vector) few valid rising own is key typed passed = absurd cc
by_value columns terms rows name (Declared number (Int8Vector width metric)) value few valid rising own is key typed passed = absurd cc
by_value columns terms rows name (Declared number (BitVector width)) value few valid rising own is key typed passed = absurd cc
by_value columns terms rows name (Declared number IntPartition) value few valid rising own is key typed passed = absurd cc
by_value columns terms rows name (Declared number TextPartition) value few valid rising own is key typed passed = absurd cc
by_value columns terms rows name (Declared number IntMeta) value few valid rising own is key typed passed = absurd cc
by_value columns terms rows name (Declared number TextMeta) value few valid rising own is key typed passed = absurd cc
by_value columns terms rows name (Declared number BoolMeta) value few valid rising own is key typed passed = absurd cc
by_value columns terms rows name (Declared number IntAux) value few valid rising own is key typed passed = absurd cc
by_value columns terms rows name (Declared number TextAux) value few valid rising own is key typed passed = absurd cc
by_value columns terms rows name (Declared number BlobAux) value few valid rising own is key typed passed = absurd cc
by_value columns terms rows name Count value few valid rising own is key typed passed = absurd cc
by_value columns terms rows name Distance value few valid rising own is key typed passed = absurd cc

by_test : (columns : List Column) (terms : List Constraint) (rows : List PlacedRow) (name : List ℕ) (test : Test) → nat_lt 1 (count_of is_key columns) ≡ false →
    list_all (is_valid_row columns) (plain_rows rows) ≡ true → is_rising (plain_rows rows) ≡ true → have_own_ids columns (plain_rows rows) ≡ true →
    is_rowid_or_key (place_of columns name) ≡ true → is_equality test ≡ true → list_all (is_of_type (place_of columns name)) (test_values test) ≡ true →
    ((row : Row) → meets_all columns terms row ≡ true → passes test (value_at (place_of columns name) row) ≡ true) → IsFor columns terms rows (rowid_said columns rows test)
by_test columns terms rows name (Compare Eq value) few valid rising own key equal typed passed =
    by_value columns terms rows name (place_of columns name) value few valid rising own refl key (and_parts _ _ typed).0 passed
by_test columns terms rows name (Compare Ne value) few valid rising own key equal typed passed = absurd cc
by_test columns terms rows name (Compare Lt value) few valid rising own key equal typed passed = absurd cc
by_test columns terms rows name (Compare Le value) few valid rising own key equal typed passed = absurd cc
by_test columns terms rows name (Compare Gt value) few valid rising own key equal typed passed = absurd cc
by_test columns terms rows name (Compare Ge value) few valid rising own key equal typed passed = absurd cc
by_test columns terms rows name (Member values) few valid rising own key equal typed passed = absurd cc
by_test columns terms rows name (Match query) few valid rising own key equal typed passed = absurd cc

-- a row that meets all terms meets the one at an index
met_at : (columns : List Column) (terms : List Constraint) (row : Row) (i : ℕ) (d : Constraint) → i < length terms → meets_all columns terms row ≡ true → meets columns row (get_or terms i d) ≡ true
met_at columns [] row i d within met = absurd (omega (arith, within))
met_at columns (term ∷ terms) row zero d within met = (and_parts _ _ met).0
met_at columns (term ∷ terms) row (suc i) d within met = met_at columns terms row i d (omega (arith, within)) (and_parts _ _ met).1

fits_at : (columns : List Column) (nearest : Bool) (terms : List Constraint) (i : ℕ) (d : Constraint) → i < length terms → AllByRecursion (IsTermFor columns nearest) terms → IsTermFor columns nearest (get_or terms i d)
fits_at columns nearest [] i d within all = absurd (omega (arith, within))
fits_at columns nearest (term ∷ terms) zero d within all = all.0
fits_at columns nearest (term ∷ terms) (suc i) d within all = fits_at columns nearest terms i d (omega (arith, within)) all.1

no_count : (place : Place) (b : Bool) → is_rowid_or_key place ≡ true → (is_count place || b) ≡ true → b ≡ true
no_count Unknown b key met = met
no_count Rowid b key met = met
no_count (Declared number kind) b key met = met
no_count Count b key met = absurd cc
no_count Distance b key met = met

-- what the term at the index of a point says
point_is_for : (table : PlacedTable) (plan : Planned) → IsPlaced table → IsPlanFor table.schema.columns plan → (i : ℕ) (term : Constraint) → plan.point ≡ Some i → slice_get plan.select.where_terms i ≡ Some term →
    IsFor table.schema.columns plan.select.where_terms table.rows (rowid_said table.schema.columns table.rows term.test)
point_is_for table plan placed is i term at found =
    let columns = table.schema.columns in
    let terms = plan.select.where_terms in
    let first = position-Some (is_point_term columns) terms i term (sym is.point ∙ at) in
    let here = get_or_from_slice_get terms i term term found in
    let point : is_point_term columns term ≡ true = ap (is_point_term columns) (sym here) ∙ first.1 in
    let parts = and_parts (is_rowid_or_key (place_of columns term.column)) (is_equality term.test) point in
    let fits : IsTermFor columns (is_nearest terms) term = subst (IsTermFor columns (is_nearest terms)) here (fits_at columns (is_nearest terms) terms i term first.0 (terms_fit columns plan.select is.checked)) in
    by_test columns terms table.rows term.column term.test (faultless table.schema placed.valid.schema.rules).keys placed.valid.values placed.valid.rising placed.valid.own_ids parts.0 parts.1 fits.typed
    (λ row met. no_count (place_of columns term.column) (passes term.test (value_at (place_of columns term.column) row)) parts.0 (ap (meets columns row) (sym here) ∙ met_at columns terms row i term first.0 met))

-- ---- the answers

abbrev pub the_answer : PlacedTable → Planned → Option ℤ
the_answer table plan = option_map rowid_of (next_met table.schema.columns plan.select.where_terms None (plain_rows table.rows))

answer_of : (table : PlacedTable) (plan : Planned) (rowid : Option ℤ) → (said : IsFor table.schema.columns plan.select.where_terms table.rows rowid) →
    the_answer table plan ≡ option_map rowid_of (such_of (meets_all table.schema.columns plan.select.where_terms) (find said.test table.rows))
answer_of table plan rowid said = ap (option_map rowid_of) (only_row (meets_all table.schema.columns plan.select.where_terms) said.test table.rows said.each said.alone)

-- no rowid is said
pub none_said : (table : PlacedTable) (plan : Planned) → IsPlaced table → IsPlanFor table.schema.columns plan → (i : ℕ) (term : Constraint) → plan.point ≡ Some i → slice_get plan.select.where_terms i ≡ Some term →
    rowid_said table.schema.columns table.rows term.test ≡ None → the_answer table plan ≡ None
none_said table plan placed is i term at found none =
    let said = point_is_for table plan placed is i term at found in
    answer_of table plan (rowid_said table.schema.columns table.rows term.test) said
    ∙ ap (λ o. option_map rowid_of (such_of (meets_all table.schema.columns plan.select.where_terms) o)) (said.nowhere none)

chosen : (columns : List Column) (terms : List Constraint) (o : Option PlacedRow) (i : ℤ) → ((p : PlacedRow) → o ≡ Some p → p.row.rowid ≡ i) →
    option_map rowid_of (such_of (meets_all columns terms) o) ≡ cond (is_met columns terms o) (Some i) None
chosen columns terms None i own = refl
chosen columns terms (Some p) i own = elim (meets_all columns terms p.row) as (λ b. option_map rowid_of (cond b (Some p.row) None) ≡ cond b (Some i) None) [ true ↦ ap Some (own p refl) | false ↦ refl ]

-- a rowid is said, and the row meets the terms or not
pub rowid_tested : (table : PlacedTable) (plan : Planned) → IsPlaced table → IsPlanFor table.schema.columns plan → (i : ℕ) (term : Constraint) → plan.point ≡ Some i → slice_get plan.select.where_terms i ≡ Some term →
    (rowid : ℤ) → rowid_said table.schema.columns table.rows term.test ≡ Some rowid → (met : Bool) → is_met table.schema.columns plan.select.where_terms (row_of table.rows rowid) ≡ met →
    the_answer table plan ≡ cond met (Some rowid) None
rowid_tested table plan placed is i term at found rowid here met tested =
    let columns = table.schema.columns in
    let terms = plan.select.where_terms in
    let said = point_is_for table plan placed is i term at found in
    answer_of table plan (rowid_said columns table.rows term.test) said
    ∙ ap (λ o. option_map rowid_of (such_of (meets_all columns terms) o)) (said.there rowid here)
    ∙ chosen columns terms (row_of table.rows rowid) rowid (λ p own. eq_from p.row.rowid rowid (found_passes (λ (q : PlacedRow). int_eq q.row.rowid rowid) table.rows p own))
    ∙ ap (λ b. cond b (Some rowid) None) tested

-- ---- what cannot be

pub no_index : (columns : List Column) (plan : Planned) (A : Type 0) → IsPlanFor columns plan → plan.shape ≡ Point → plan.point ≡ None → A
no_index columns plan A is point none = let there = point_there columns plan is point in let gone = ap is_some none in absurd cc

pub no_term : (columns : List Column) (plan : Planned) (A : Type 0) (i : ℕ) → IsPlanFor columns plan → plan.point ≡ Some i → slice_get plan.select.where_terms i ≡ None → A
no_term columns plan A i is at none = by_terms plan.select.where_terms (sym is.point ∙ at) none where
  by_terms : (terms : List Constraint) → position (is_point_term columns) terms ≡ Some i → slice_get terms i ≡ None → A
  by_terms [] found gone = absurd cc
  by_terms (term ∷ terms) found gone =
      let first = position-Some (is_point_term columns) (term ∷ terms) i term found in
      let there = slice_get-get_or (term ∷ terms) i term first.0 in
      absurd cc

-- ---- the row that is met

none_such : (such : Row → Bool) (test : PlacedRow → Bool) (ps : List PlacedRow) → AllByRecursion (λ (p : PlacedRow). such p.row ≡ true → test p ≡ true) ps → list_any test ps ≡ false → filter such (plain_rows ps) ≡ []
none_such such test [] each none = refl
none_such such test (p ∷ ps) each none = by_such (such p.row) refl (none_such such test ps each.1 (or_second (test p) (list_any test ps) none)) where
  by_such : (b : Bool) → such p.row ≡ b → filter such (plain_rows ps) ≡ [] → filter such (plain_rows (p ∷ ps)) ≡ []
  by_such true e rest = let here : test p ≡ true = each.0 e in let gone : (true || list_any test ps) ≡ false = ap (λ b. b || list_any test ps) (sym here) ∙ none in absurd cc
  by_such false e rest = cond-false _ _ _ e ∙ rest

-- where such rows pass a test that one row at most passes, the first of them is the only one
only_such : (such : Row → Bool) (test : PlacedRow → Bool) (ps : List PlacedRow) → AllByRecursion (λ (p : PlacedRow). such p.row ≡ true → test p ≡ true) ps → IsAlone test ps →
    (row : Row) → from_rows such None ps ≡ Some row → filter such (plain_rows ps) ≡ row ∷ []
only_such such test [] each alone row found = absurd cc
only_such such test (p ∷ ps) each alone row found = by_such (such p.row) refl (λ later. only_such such test ps each.1 alone.1 row later) where
  by_such : (b : Bool) → such p.row ≡ b → (from_rows such None ps ≡ Some row → filter such (plain_rows ps) ≡ row ∷ []) → filter such (plain_rows (p ∷ ps)) ≡ row ∷ []
  by_such true e rest =
      let first : Some p.row ≡ Some row = sym (ap (λ b. find (λ (r : Row). true) (cond b (p.row ∷ filter such (plain_rows ps)) (filter such (plain_rows ps)))) e) ∙ found in
      let same : p.row ≡ row = cc in
      cond-true _ _ _ e ∙ ap₂ (λ (r : Row) (rs : List Row). r ∷ rs) same (none_such such test ps each.1 (alone.0 (each.0 e)))
  by_such false e rest =
      cond-false _ _ _ e ∙ rest (sym (ap (λ b. find (λ (r : Row). true) (cond b (p.row ∷ filter such (plain_rows ps)) (filter such (plain_rows ps)))) e) ∙ found)

-- the row of the rowid is the only one that meets all terms
pub record IsOneMet (table : PlacedTable) (plan : Planned) (rowid : ℤ) : Type 0 where
  pub placed : PlacedRow
  pub there : row_of table.rows rowid ≡ Some placed
  pub only : met table.schema.columns plan.select.where_terms (plain_rows table.rows) ≡ placed.row ∷ []

such_found : (such : Row → Bool) (o : Option PlacedRow) (row : Row) → such_of such o ≡ Some row → (p : PlacedRow) × ((o ≡ Some p) × (p.row ≡ row))
such_found such None row is = absurd cc
such_found such (Some p) row is = (p, (refl, by_test (such p.row) is)) where
  by_test : (b : Bool) → cond b (Some p.row) None ≡ Some row → p.row ≡ row
  by_test true e = cc
  by_test false e = absurd cc

one_met : (table : PlacedTable) (plan : Planned) (rowid : ℤ) → IsPlaced table → (said : Option ℤ) → IsFor table.schema.columns plan.select.where_terms table.rows said →
    the_answer table plan ≡ Some rowid → IsOneMet table plan rowid
one_met table plan rowid placed said for answered =
    let such : Row → Bool = meets_all table.schema.columns plan.select.where_terms in
    let from = mapped_some rowid_of (from_rows such None table.rows) rowid answered in
    let row = from.0 in
    let found = such_found such (find for.test table.rows) row (sym (only_row such for.test table.rows for.each for.alone) ∙ from.1.0) in
    let p = found.0 in
    let own : p.row.rowid ≡ rowid = ap (λ (r : Row). r.rowid) found.1.1 ∙ from.1.1 in
    let by_key : row_of table.rows p.row.rowid ≡ Some p = found_by_key rowid_in for.test table.rows p (sym (placed_rise table.rows) ∙ placed.valid.rising) found.1.0 in
    record {
      placed = p;
      there = ap (row_of table.rows) (sym own) ∙ by_key;
      only = only_such such for.test table.rows for.each for.alone row from.1.0 ∙ ap (λ (r : Row). r ∷ []) (sym found.1.1);
    }

pub point_one : (table : PlacedTable) (plan : Planned) → IsPlaced table → IsPlanFor table.schema.columns plan → plan.shape ≡ Point → (rowid : ℤ) → the_answer table plan ≡ Some rowid → IsOneMet table plan rowid
point_one table plan placed is point rowid answered = by_index plan.point refl where
  by_term : (i : ℕ) → plan.point ≡ Some i → (term : Option Constraint) → slice_get plan.select.where_terms i ≡ term → IsOneMet table plan rowid
  by_term i at None found = no_term table.schema.columns plan (IsOneMet table plan rowid) i is at found
  by_term i at (Some term) found =
      one_met table plan rowid placed (rowid_said table.schema.columns table.rows term.test) (point_is_for table plan placed is i term at found) answered

  by_index : (index : Option ℕ) → plan.point ≡ index → IsOneMet table plan rowid
  by_index None at = no_index table.schema.columns plan (IsOneMet table plan rowid) is point at
  by_index (Some i) at = by_term i at (slice_get plan.select.where_terms i) refl

-- where no row is found, none meets all terms
pub point_none : (table : PlacedTable) (plan : Planned) → the_answer table plan ≡ None → met table.schema.columns plan.select.where_terms (plain_rows table.rows) ≡ []
point_none table plan none = by_rows (met table.schema.columns plan.select.where_terms (plain_rows table.rows)) none where
  by_rows : (rows : List Row) → option_map rowid_of (find (λ (r : Row). true) rows) ≡ None → rows ≡ []
  by_rows [] e = refl
  by_rows (row ∷ rows) e = absurd cc
