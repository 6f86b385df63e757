-- A table that is filled from records, beside each table whose records they are.
use Rattle.std.proofs.Common.{◌≡◌, ℕ, ◌<◌, ℤ, int_le, int_lt, Bool, true, false, cond, if◌then◌else◌, List, [], ◌∷◌, length, refl, sym, ap, ◌∙◌, subst, arith, ◌⊎◌, inl, inr, Some, None}
use Rattle.std.specs.Prelude.{◌==◌, find, is_some, nat_lt}
use Rattle.std.specs.Cmp.Lexicographic.{bytes_decides}
use Rattle.std.specs.List.{AllByRecursion}
use Rattle.std.specs.Ordering.{int_eq, is_lt}
use Rattle.std.specs.FinMap.{is_sorted}
use Rattle.std.specs.FinMap.Entries.{below_all}
use Rattle.std.specs.declared.option.Option.{Option}
use Rattle.std.proofs.lemmas.Bool.{and_parts, eq-eqb, eqb-true, leb-true}
use Rattle.std.proofs.lemmas.Int.{ints}
use Rattle.vec_base.specs.declared.limits.TheConstants.{MOST_ROWS}
use Rattle.vec_base.specs.declared.shadow.ShadowKey.{ShadowKey}
use Rattle.record_bodies.specs.ReadRows.{body_among, decoded, decoded_from}
use Rattle.record_bodies.proofs.DecodingLaws.{decoded_is}
use Rattle.record_bodies.proofs.FindLaws.{found_all, found_passes, rowid_is}
use Rattle.record_bodies.proofs.OneTableLaws.{rising_same}
use Rattle.row_model.specs.Change.{larger, same_id}
use Rattle.row_model.specs.Rows.{is_rising}
use Rattle.row_model.specs.declared.schema.Schema.{Schema}
use Rattle.row_model.specs.Schemas.{count_of, is_key}
use Rattle.row_model.specs.Valid.{is_valid_row}
use Rattle.row_model.proofs.SchemaLaws.{faultless}
use Rattle.row_store.specs.StoredRows.{has_text}
use Rattle.shadow_records.specs.Keys.{key_cmp}
use Rattle.shadow_records.specs.PlacedTables.{PlacedRow, PlacedTable, IsPlaced, AreAlike, AreApart, first_in, is_at, is_place, plain_rows, row_at, row_of}
use Rattle.shadow_records.specs.Records.{body_of, place_body, RecordsAre}
use Rattle.table_version.specs.Inserting.{partition_in}
use Rattle.table_version.specs.Kept.{id_in}
use Rattle.table_version.specs.PlacedRows.{table_with, with_placed}
use Rattle.table_version.specs.Placing.{FitsBeside}
use Rattle.table_version.specs.Versions.{row_with_id}
use Rattle.table_version.proofs.WeavingLaws.{one_id-from, same_id-texts}
use Rattle.table_attach.specs.Attaching.{Records, body_under, AreRecordsOf, StandForNone}
use Rattle.table_attach.specs.inner.Filling.{Fails, Fills, IsOpened, IsRecordOf, Takes, is_row_key, row_shown}
use Rattle.table_attach.proofs.CompleteLaws.{complete}
use Rattle.table_attach.proofs.FillLaws.{AreFilled, AreShown, filled}
use Rattle.table_attach.proofs.KeyFacts.{IsOwn, all-own, found-among, is_row_key-of, not_behind, row_key, row_key-is}
use Rattle.table_attach.proofs.ShownLaws.{shown-from}
use Rattle.table_attach.proofs.RowFacts.{AreAmong, Rising, found-own, found-plain, ids-apart, length-more, no_more, of-more, pair-found, rising-more}

eq_false : (i j : ℤ) (p q : PlacedRow) → p.row.rowid ≡ i → q.row.rowid ≡ j → int_eq i j ≡ false → p ≡ q → ⊥
eq_false i j p q a b apart same = let one : i ≡ j = sym a ∙ ap (λ (r : PlacedRow). r.row.rowid) same ∙ b in no i j one apart where
  no : (i j : ℤ) → i ≡ j → int_eq i j ≡ false → ⊥
  no i j one apart = grind (arith, ints)

module _ (number : ℕ) (records : Records) (rising : is_sorted key_cmp records ≡ true) (v : PlacedTable) (placed : IsPlaced v) (are : AreRecordsOf number v records) where
  records_are : RecordsAre number v (body_among records)
  records_are key under = are key ∙ ap (λ b. cond b (body_of v key) None) (eq-eqb key.table number under)

  shown_is : (i : ℤ) → decoded (body_among records) number v.schema.columns i ≡ row_of v.rows i
  shown_is i = decoded_is number v (body_among records) records_are placed i

  shown_rowid : (i : ℤ) (p : PlacedRow) → decoded (body_among records) number v.schema.columns i ≡ Some p → p.row.rowid ≡ i
  shown_rowid i p is = rowid_is v.rows i p (sym (shown_is i) ∙ is)

  -- some of the rows, and the records of the others
  pub record IsPart (table : PlacedTable) (rest : Records) : Type 0 where
    pub name : table.name ≡ v.name
    pub schema : table.schema ≡ v.schema
    pub top : table.top ≡ v.top
    pub among : AreAmong table.rows v.rows
    pub order : Rising table.rows
    pub ahead : (i : ℤ) (p : PlacedRow) → row_of table.rows i ≡ Some p → below_all key_cmp (row_key number i) rest ≡ true

  -- what a row's record shows is the row of its rowid
  row_there : (table : PlacedTable) (r : ShadowKey × List ℕ) → table.schema ≡ v.schema → IsOwn records r → is_row_key number r.0 ≡ true → row_shown number records table r ≡ row_of v.rows r.0.a
  row_there table r same own key =
      ap (λ s. decoded_from (body_among records) number s r.0.a (Some r.1)) (ap (λ s. s.columns) same)
      ∙ ap (decoded_from (body_among records) number v.schema.columns r.0.a) (sym (ap (body_among records) (sym (row_key-is number r.0 key)) ∙ own))
      ∙ shown_is r.0.a

  -- and there is one
  some_row : (r : ShadowKey × List ℕ) → IsOwn records r → is_row_key number r.0 ≡ true → (p : PlacedRow) × (row_of v.rows r.0.a ≡ Some p)
  some_row r own key = at (row_of v.rows r.0.a) refl where
    body : place_body v.schema.columns (row_of v.rows r.0.a) ≡ Some r.1
    body = sym (records_are (row_key number r.0.a) refl) ∙ ap (body_among records) (sym (row_key-is number r.0 key)) ∙ own

    at : (o : Option PlacedRow) → row_of v.rows r.0.a ≡ o → (p : PlacedRow) × (row_of v.rows r.0.a ≡ Some p)
    at None is = let never : None ≡ Some r.1 = sym (ap (place_body v.schema.columns) is) ∙ body in absurd cc
    at (Some p) is = (p, is)

  module _ (table : PlacedTable) (r : ShadowKey × List ℕ) (rest : Records) (part : IsPart table (r ∷ rest)) (key : is_row_key number r.0 ≡ true)
      (p : PlacedRow) (there : row_of v.rows r.0.a ≡ Some p) (behind : below_all key_cmp r.0 rest ≡ true) where
    rowid : p.row.rowid ≡ r.0.a
    rowid = rowid_is v.rows r.0.a p there

    fresh : row_of table.rows p.row.rowid ≡ None
    fresh = at (row_of table.rows r.0.a) refl where
      at : (o : Option PlacedRow) → row_of table.rows r.0.a ≡ o → row_of table.rows p.row.rowid ≡ None
      at None is = ap (row_of table.rows) rowid ∙ is
      at (Some q) is =
          let less = (and_parts (is_lt (key_cmp (row_key number r.0.a) r.0)) (below_all key_cmp (row_key number r.0.a) rest) (part.ahead r.0.a q is)).0 in
          absurd (not_behind r.0 (ap (λ k. is_lt (key_cmp k r.0)) (row_key-is number r.0 key) ∙ less))

    -- a row that stands in the part is another row of the table
    other : (test : PlacedRow → Bool) (q : PlacedRow) → find test table.rows ≡ Some q → (row_of v.rows q.row.rowid ≡ Some q) × (int_eq r.0.a q.row.rowid ≡ false)
    other test q is = (part.among q.row.rowid q own, by_test (int_eq r.0.a q.row.rowid) refl) where
      own : row_of table.rows q.row.rowid ≡ Some q
      own = found-own test table.rows q part.order is

      eq_is : (i j : ℤ) → int_eq i j ≡ true → i ≡ j
      eq_is i j h = grind (arith, ints)

      by_test : (t : Bool) → int_eq r.0.a q.row.rowid ≡ t → t ≡ false
      by_test false h = refl
      by_test true h = let never : None ≡ Some q = sym fresh ∙ ap (row_of table.rows) (rowid ∙ eq_is r.0.a q.row.rowid h) ∙ own in absurd cc

    free : row_at table.rows p.chunk p.slot ≡ None
    free = at (row_at table.rows p.chunk p.slot) refl where
      at : (o : Option PlacedRow) → row_at table.rows p.chunk p.slot ≡ o → o ≡ None
      at None is = refl
      at (Some q) is =
          let own = other (is_at p.chunk p.slot) q is in
          let place = and_parts (q.chunk == p.chunk) (q.slot == p.slot) (found_passes (is_at p.chunk p.slot) table.rows q is) in
          let c = eqb-true q.chunk p.chunk place.0 in
          let s = eqb-true q.slot p.slot place.1 in
          absurd (by_pair q c s own.1 (pair-found AreApart (λ x. int_eq x.row.rowid r.0.a) (λ x. int_eq x.row.rowid q.row.rowid) v.rows p q placed.apart there own.0))
        where
          by_pair : (q : PlacedRow) → q.chunk ≡ p.chunk → q.slot ≡ p.slot → int_eq r.0.a q.row.rowid ≡ false → (p ≡ q) ⊎ (AreApart p q ⊎ AreApart q p) → ⊥
          by_pair q c s apart (inl same) = eq_false r.0.a q.row.rowid p q rowid refl apart same
          by_pair q c s apart (inr (inl both)) = both (sym c) (sym s)
          by_pair q c s apart (inr (inr both)) = both c s

    alike : (first : PlacedRow) → first_in table.rows p.chunk ≡ Some first → partition_in v.schema.columns first ≡ partition_in v.schema.columns p
    alike first is =
        let own = other (λ x. x.chunk == p.chunk) first is in
        let c = eqb-true first.chunk p.chunk (found_passes (λ x. x.chunk == p.chunk) table.rows first is) in
        by_pair c own.1 (pair-found (AreAlike v.schema.columns) (λ x. int_eq x.row.rowid r.0.a) (λ x. int_eq x.row.rowid first.row.rowid) v.rows p first placed.alike there own.0)
      where
        by_pair : first.chunk ≡ p.chunk → int_eq r.0.a first.row.rowid ≡ false → (p ≡ first) ⊎ (AreAlike v.schema.columns p first ⊎ AreAlike v.schema.columns first p) → partition_in v.schema.columns first ≡ partition_in v.schema.columns p
        by_pair c apart (inl same) = absurd (eq_false r.0.a first.row.rowid p first rowid refl apart same)
        by_pair c apart (inr (inl both)) = sym (both (sym c))
        by_pair c apart (inr (inr both)) = both c

    keys : nat_lt 1 (count_of is_key v.schema.columns) ≡ false
    keys = (faultless v.schema placed.valid.schema.rules).keys

    valid_row : (q : PlacedRow) (test : PlacedRow → Bool) → find test v.rows ≡ Some q → is_valid_row v.schema.columns q.row ≡ true
    valid_row q test is = found-plain (is_valid_row v.schema.columns) test v.rows q placed.valid.values is

    own_id : (text : List ℕ) → id_in v.schema.columns p.row.values ≡ Some text → row_with_id v.schema.columns text table.rows ≡ None
    own_id text id = at (row_with_id v.schema.columns text table.rows) refl where
      at : (o : Option PlacedRow) → row_with_id v.schema.columns text table.rows ≡ o → o ≡ None
      at None is = refl
      at (Some q) is =
          let own = other _ q is in
          absurd (by_pair q (same_text (id_in v.schema.columns q.row.values) (found_passes _ table.rows q is)) own.1 own.0
          (ids-apart v.schema.columns v.rows (λ x. int_eq x.row.rowid r.0.a) (λ x. int_eq x.row.rowid q.row.rowid) p q placed.valid.own_ids there own.0))
        where
          same_text : (o : Option (List ℕ)) → has_text text o ≡ true → o ≡ Some text
          same_text None h = absurd cc
          same_text (Some other) h = ap Some ((bytes_decides other text).0 h)

          by_pair : (q : PlacedRow) → id_in v.schema.columns q.row.values ≡ Some text → int_eq r.0.a q.row.rowid ≡ false → row_of v.rows q.row.rowid ≡ Some q →
              (p ≡ q) ⊎ ((same_id v.schema.columns p.row.values q.row.values ≡ false) ⊎ (same_id v.schema.columns q.row.values p.row.values ≡ false)) → ⊥
          by_pair q other apart found (inl same) = eq_false r.0.a q.row.rowid p q rowid refl apart same
          by_pair q other apart found (inr (inl differ)) =
              let same = same_id-texts v.schema.columns p.row.rowid q.row.rowid p.row.values q.row.values keys (valid_row p _ there) (valid_row q _ found) in
              let one : true ≡ false = sym (same ∙ rw (id, other) (one_id-from text)) ∙ differ in
              absurd cc
          by_pair q other apart found (inr (inr differ)) =
              let same = same_id-texts v.schema.columns q.row.rowid p.row.rowid q.row.values p.row.values keys (valid_row q _ found) (valid_row p _ there) in
              let one : true ≡ false = sym (same ∙ rw (id, other) (one_id-from text)) ∙ differ in
              absurd cc

    more_rows : AreAmong (with_placed p table.rows) v.rows
    more_rows i q is = by_cases (of-more p table.rows fresh i q is) where
      by_cases : ((i ≡ p.row.rowid) × (q ≡ p)) ⊎ (row_of table.rows i ≡ Some q) → row_of v.rows i ≡ Some q
      by_cases (inl both) = ap (row_of v.rows) (both.0 ∙ rowid) ∙ there ∙ ap Some (sym both.1)
      by_cases (inr old) = part.among i q old

    few : length table.rows < MOST_ROWS
    few =
        let most = no_more v.rows (with_placed p table.rows) (rising-more p table.rows fresh part.order) placed.valid.rising more_rows in
        let one = length-more p table.rows in
        let all = leb-true (length (plain_rows v.rows)) MOST_ROWS placed.valid.few in
        let same = length_plain v.rows in
        omega (arith, most, one, all, same)
      where
        length_plain : (ps : List PlacedRow) → length (plain_rows ps) ≡ length ps
        length_plain [] = refl
        length_plain (q ∷ qs) = let rest = length_plain qs in omega (arith, rest)

    -- the row can stand beside the part
    pub fits : FitsBeside table p
    fits = record {
      valid = ap (λ s. is_valid_row s.columns p.row) part.schema ∙ valid_row p (λ x. int_eq x.row.rowid r.0.a) there;
      place = ap (λ s. is_place s.chunk_size p) part.schema ∙ found_all (λ x. int_eq x.row.rowid r.0.a) (is_place v.schema.chunk_size) v.rows p placed.places there;
      topped = ap (int_le p.row.rowid) part.top ∙ found-plain (λ row. int_le row.rowid v.top) (λ x. int_eq x.row.rowid r.0.a) v.rows p placed.valid.topped there;
      few = few;
      fresh = fresh;
      own_id = λ text is. ap (λ s. row_with_id s.columns text table.rows) part.schema ∙ own_id text (ap (λ s. id_in s.columns p.row.values) (sym part.schema) ∙ is);
      free = free;
      alike = λ first is. ap (λ s. partition_in s.columns first) part.schema ∙ alike first is ∙ ap (λ s. partition_in s.columns p) (sym part.schema);
    }

    pub part-more : IsPart (table_with table p) rest
    part-more = record {
      name = part.name;
      schema = part.schema;
      top = larger_top (ap (int_le p.row.rowid) part.top ∙ found-plain (λ row. int_le row.rowid v.top) (λ x. int_eq x.row.rowid r.0.a) v.rows p placed.valid.topped there) ∙ part.top;
      among = more_rows;
      order = rising-more p table.rows fresh part.order;
      ahead = λ i q is. by_cases i q (of-more p table.rows fresh i q is);
    } where
      larger_top : int_le p.row.rowid table.top ≡ true → larger table.top p.row.rowid ≡ table.top
      larger_top le = by_test (int_lt table.top p.row.rowid) refl where
        by_test : (b : Bool) → int_lt table.top p.row.rowid ≡ b → (if b then p.row.rowid else table.top) ≡ table.top
        by_test false is = refl
        by_test true is = let never : int_lt table.top p.row.rowid ≡ false = grind (arith, ints) in absurd cc

      by_cases : (i : ℤ) (q : PlacedRow) → ((i ≡ p.row.rowid) × (q ≡ p)) ⊎ (row_of table.rows i ≡ Some q) → below_all key_cmp (row_key number i) rest ≡ true
      by_cases i q (inl both) = ap (λ k. below_all key_cmp k rest) (ap (row_key number) (both.0 ∙ rowid) ∙ sym (row_key-is number r.0 key)) ∙ behind
      by_cases i q (inr old) = (and_parts (is_lt (key_cmp (row_key number i) r.0)) (below_all key_cmp (row_key number i) rest) (part.ahead i q old)).1

  -- a record adds its row, or leaves the part
  part-step : (table middle : PlacedTable) (r : ShadowKey × List ℕ) (rest : Records) → IsPart table (r ∷ rest) → IsOwn records r → below_all key_cmp r.0 rest ≡ true → Takes number records table r middle → IsPart middle rest
  part-step table middle r rest part own behind takes = by_key (is_row_key number r.0) refl where
    by_key : (b : Bool) → is_row_key number r.0 ≡ b → IsPart middle rest
    by_key false other = subst (λ t. IsPart t rest) (sym (takes.other other)) (record {
      name = part.name;
      schema = part.schema;
      top = part.top;
      among = part.among;
      order = part.order;
      ahead = λ i p is. (and_parts (is_lt (key_cmp (row_key number i) r.0)) (below_all key_cmp (row_key number i) rest) (part.ahead i p is)).1;
    })
    by_key true key =
        let taken = takes.taken key in
        let there : row_of v.rows r.0.a ≡ Some taken.row = sym (row_there table r part.schema own key) ∙ taken.shown in
        subst (λ t. IsPart t rest) (sym taken.table_is) (part-more table r rest part key taken.row there behind)

  -- no record is refused
  never-fails : (rest : Records) (table : PlacedTable) → AllByRecursion (IsOwn records) rest → is_sorted key_cmp rest ≡ true → IsPart table rest → Fails number records table rest → ⊥
  never-fails [] table own rise part fails = fails
  never-fails (r ∷ rest) table own rise part (inl refuses) =
      let there = some_row r own.0 refuses.key in
      let shown = row_there table r part.schema own.0 refuses.key ∙ there.1 in
      refuses.refused there.0 shown (fits table r rest part refuses.key there.0 there.1 (and_parts (below_all key_cmp r.0 rest) (is_sorted key_cmp rest) rise).0)
  never-fails (r ∷ rest) table own rise part (inr (middle, both)) =
      let p = and_parts (below_all key_cmp r.0 rest) (is_sorted key_cmp rest) rise in
      never-fails rest middle own.1 p.1 (part-step table middle r rest part own.0 p.0 both.0) both.1

  part-filled : (rest : Records) (table new : PlacedTable) → AllByRecursion (IsOwn records) rest → is_sorted key_cmp rest ≡ true → IsPart table rest → Fills number records table rest new → IsPart new []
  part-filled [] table new own rise part same = subst (λ t. IsPart t []) (sym same) part
  part-filled (r ∷ rest) table new own rise part (middle, both) =
      let p = and_parts (below_all key_cmp r.0 rest) (is_sorted key_cmp rest) rise in
      part-filled rest middle new own.1 p.1 (part-step table middle r rest part own.0 p.0 both.0) both.1

  -- a table without rows is a part
  part-empty : (table : PlacedTable) → IsOpened number records table → IsPart table records
  part-empty table opened = record {
    name = opened.same_name v placed are;
    schema = opened.same_schema v placed are;
    top = opened.same_top v placed are;
    among = λ i p is. let never : None ≡ Some p = sym (ap (λ rows. row_of rows i) opened.rows) ∙ is in absurd cc;
    order = ap (λ rows. is_rising (plain_rows rows)) opened.rows;
    ahead = λ i p is. let never : None ≡ Some p = sym (ap (λ rows. row_of rows i) opened.rows) ∙ is in absurd cc;
  }

  pub never-refused : (table : PlacedTable) → IsOpened number records table → Fails number records table records → ⊥
  never-refused table opened fails = never-fails records table (all-own records rising) rising (part-empty table opened) fails

  -- the table that is filled is the one whose records these are
  pub filled-is : (table new : PlacedTable) → IsOpened number records table → Fills number records table records new → new ≡ v
  filled-is table new opened fills =
      let part = part-filled records table new (all-own records rising) rising (part-empty table opened) fills in
      let all = filled number records v.schema shown_rowid records table new (all-own records rising) (shown_none table opened) fills in
      same_table new part.name part.schema part.top (rising_same new.rows v.rows part.order placed.valid.rising (λ i. rows_same new part all i (row_of v.rows i) (row_of new.rows i) refl refl))
    where
      shown_none : (table : PlacedTable) → IsOpened number records table → AreShown number records v.schema table
      shown_none table opened = record {
        schema_is = opened.same_schema v placed are;
        each = λ i p is. let never : None ≡ Some p = sym (ap (λ rows. row_of rows i) opened.rows) ∙ is in absurd cc;
      }

      rows_same : (new : PlacedTable) → IsPart new [] → AreFilled number records v.schema table new records → (i : ℤ) (o m : Option PlacedRow) → row_of v.rows i ≡ o → row_of new.rows i ≡ m → row_of new.rows i ≡ row_of v.rows i
      rows_same new part all i o (Some q) is_v is_new = is_new ∙ sym (part.among i q is_new)
      rows_same new part all i None None is_v is_new = is_new ∙ sym is_v
      rows_same new part all i (Some p) None is_v is_new =
          let body = records_are (row_key number i) refl ∙ ap (place_body v.schema.columns) is_v in
          let found = found-among (λ (r : ShadowKey × List ℕ). is_row_key number r.0 ≡ true → is_some (row_of new.rows r.0.a) ≡ true) records (row_key number i) _ all.found body in
          let there : true ≡ false = sym (found (is_row_key-of number i)) ∙ ap is_some is_new in
          absurd cc

      same_table : (w : PlacedTable) → w.name ≡ v.name → w.schema ≡ v.schema → w.top ≡ v.top → w.rows ≡ v.rows → w ≡ v
      same_table w name schema top rows = λ i. record { name = name i; schema = schema i; top = top i; rows = rows i }

  -- each record is the table's
  pub all-theirs : AllByRecursion (IsRecordOf number v) records
  all-theirs = each records (all-own records rising) where
    one : (r : ShadowKey × List ℕ) → IsOwn records r → IsRecordOf number v r
    one r own = at (r.0.table == number) refl (sym (are r.0) ∙ own) where
      at : (b : Bool) → (r.0.table == number) ≡ b → cond b (body_of v r.0) None ≡ Some r.1 → IsRecordOf number v r
      at false is never = absurd cc
      at true is body = record { under = eqb-true r.0.table number is; body = body }

    each : (xs : Records) → AllByRecursion (IsOwn records) xs → AllByRecursion (IsRecordOf number v) xs
    each [] own = tt
    each (x ∷ xs) own = (one x own.0, each xs own.1)

-- ---- both ways

module _ (number : ℕ) (records : Records) (rising : is_sorted key_cmp records ≡ true) (table : PlacedTable) (opened : IsOpened number records table) where
  -- a record that is refused: no table has these records
  pub refused : Fails number records table records → StandForNone number records
  refused fails v placed are = never-refused number records rising v placed are table opened fails

  module _ (new : PlacedTable) (fills : Fills number records table records new) where
    -- a record that differs: no table has these records
    pub differs : (AllByRecursion (IsRecordOf number new) records → ⊥) → StandForNone number records
    differs differ v placed are =
        let same = filled-is number records rising v placed are table new opened fills in
        differ (subst (λ t. AllByRecursion (IsRecordOf number t) records) (sym same) (all-theirs number records rising v placed are))

    -- all records are the table's, and no others
    pub theirs : IsPlaced new → AllByRecursion (IsRecordOf number new) records → AreRecordsOf number new records
    theirs placed all key = at (body_among records key) refl where
      shown_none : AreShown number records table.schema table
      shown_none = record { schema_is = refl; each = λ i p is. let never : None ≡ Some p = sym (ap (λ rows. row_of rows i) opened.rows) ∙ is in absurd cc }

      fill : AreFilled number records table.schema table new records
      fill = filled number records table.schema (λ i p is. (shown-from (body_among records) number table.schema.columns i p is).own) records table new (all-own records rising) shown_none fills

      at : (o : Option (List ℕ)) → body_among records key ≡ o → body_among records key ≡ body_under number new key
      at (Some body) is =
          let r = found-among (IsRecordOf number new) records key body all is in
          is ∙ sym (ap (λ b. cond b (body_of new key) None) (eq-eqb key.table number r.under) ∙ r.body)
      at None is = one (key.table == number) refl where
        one : (c : Bool) → (key.table == number) ≡ c → body_among records key ≡ cond c (body_of new key) None
        one false other = is
        one true under = two (body_of new key) refl where
          two : (o : Option (List ℕ)) → body_of new key ≡ o → body_among records key ≡ o
          two None none = is
          two (Some body) some =
              let there = complete number (body_among records) new placed.valid.rising (λ i p row. ap (λ (s : Schema). decoded (body_among records) number s.columns i) fill.shown.schema_is ∙ fill.shown.each i p row) opened.info opened.top key (eqb-true key.table number under) body some in
              let never : true ≡ false = sym there ∙ ap is_some is in
              absurd cc
