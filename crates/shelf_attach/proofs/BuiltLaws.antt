-- The first records stand for the tables that are built.
use Rattle.std.proofs.Common.{◌≡◌, ℕ, suc, ◌+◌, ◌-◌, ◌<◌, ◌≤◌, pos, Bool, true, false, cond, List, [], ◌∷◌, ◌++◌, length, refl, sym, ap, ◌∙◌, subst, arith, Option, Some, None, append_assoc}
use Rattle.std.specs.Prelude.{◌==◌, slice_set}
use Rattle.std.specs.List.{AllByRecursion}
use Rattle.std.specs.FinMap.{get, get-from_entries}
use Rattle.std.proofs.lemmas.Bool.{cond-true, eq-eqb, eqb-true}
use Rattle.record_bodies.specs.ReadRows.{body_among}
use Rattle.record_bodies.proofs.OneTableLaws.{one_table}
use Rattle.row_model.specs.Valid.{IsValidCatalog, numbers_rise}
use Rattle.row_model.specs.declared.row.Catalog.{Catalog}
use Rattle.row_model.specs.declared.row.Named.{Named}
use Rattle.shadow_keeper.specs.Keeping.{tables_of}
use Rattle.shadow_records.proofs.KeyLaws.{is_key-same, key_total}
use Rattle.shadow_records.specs.Keys.{is_key, key_of}
use Rattle.shadow_records.specs.PlacedTables.{IsPlaced, PlacedTable}
use Rattle.shadow_records.specs.Records.{RecordsAre, body_of}
use Rattle.shadow_records.specs.StandsFor.{IsDamaged, NumberedTable, StandUpTo, StandsFor, named, record_in, record_of, table_of}
use Rattle.shadow_records.specs.StandsFor as standing
use Rattle.table_attach.specs.Attaching.{AreRecordsOf, Records}
use Rattle.table_attach.proofs.SchemaTexts.{one_text}
use Rattle.table_version.specs.Versions.{VersionState}
use Rattle.vec_base.specs.declared.shadow.ShadowKey.{ShadowKey}
use Rattle.version_shelf.specs.Numbers.{catalog_of, named_as, numbered, under}
use Rattle.version_shelf.specs.Records.{HoldsRecords, table_in}
use Rattle.shelf_attach.specs.inner.Building.{HasRoom, IsNext, IsRefused}
use Rattle.shelf_attach.specs.inner.Grouping.{AllUnder}
use Rattle.shelf_attach.proofs.CatalogLaws.{named_append, placed_more, room_among, valid_more}
use Rattle.shelf_attach.proofs.GroupLaws.{all_weaker, behind_none, found_under, none_behind, not_under}
use Rattle.shelf_attach.proofs.NumberLaws.{NoneFrom, begins, each_number, each_placed, number_bounds, numbered_as, numbered_more, of_append_other, of_append_own, under_other, under_own}

some_none : (body : List ℕ) → Some body ≡ None → ⊥
some_none body e = cc

-- the records as a finite map
pub in_map : (records : Records) (key : ShadowKey) → get (tables_of records) key ≡ body_among records key
in_map records key = get-from_entries key_total records key

abbrev info_key : ℕ → ShadowKey
info_key number = key_of number 1 (pos 0) (pos 0)

-- ---- tables that have records

-- where the table of a number has the records, the number is among them
numbers_among : (Meets : ℕ → Type 0) (front : Records) (number : ℕ) (table : PlacedTable) → AllUnder Meets front → get (tables_of front) (info_key number) ≡ record_in (Some table) (info_key number) → Meets number
numbers_among Meets front number table all holds = found_under Meets front (info_key number) _ all (sym (in_map front (info_key number)) ∙ holds)

module _ (front : Records) (catalog : Catalog) (stands : StandsFor (tables_of front) catalog) where
  -- each table of the catalog has a number that is among the records
  stands_below : (number : ℕ) → AllUnder (λ other. other < number) front → AllByRecursion (λ (t : NumberedTable). t.number < number) stands.numbered
  stands_below number all = each_number (λ n. n < number) stands.numbered (λ n v is.
      numbers_among (λ other. other < number) front n v all (stands.holds (info_key n) ∙ ap (λ o. record_in o (info_key n)) is))

none_above : (front : Records) (versions : List (Option VersionState)) (number : ℕ) → HoldsRecords (tables_of front) versions → AllUnder (λ other. other < number) front → (m : ℕ) → number ≤ m → under m versions ≡ None
none_above front versions number holds all m least = at (under m versions) refl where
  at : (o : Option VersionState) → under m versions ≡ o → o ≡ None
  at None is = refl
  at (Some v) is =
      let below : m < number = numbers_among (λ other. other < number) front m v.table all (holds (info_key m) ∙ ap (λ o. record_in (table_in o) (info_key m)) is) in
      absurd (omega (arith, below, least))

-- nothing stands under a number that is above those of the records
pub free_from : (front : Records) (versions : List (Option VersionState)) (number : ℕ) → HoldsRecords (tables_of front) versions → AllUnder (λ other. other < number) front → 1 ≤ number → NoneFrom versions (number - 1)
free_from front versions number holds all low i least = none_above front versions number holds all (suc i) (omega (arith, low, least))

pub numbered_with : (front : Records) (versions : List (Option VersionState)) (number : ℕ) (version : VersionState) → HoldsRecords (tables_of front) versions → AllUnder (λ other. other < number) front → 1 ≤ number → number ≤ length versions →
    numbered 1 (slice_set versions (number - 1) (Some version)) ≡ numbered 1 versions ++ named_as (1 + (number - 1)) version ∷ []
numbered_with front versions number version holds less low high = numbered_more 1 (number - 1) versions version (omega (arith, low, high)) (free_from front versions number holds less low)

-- ---- one group more

module _ (front group : Records) (number : ℕ) (less : AllUnder (λ other. other < number) front) (own : AllUnder (λ other. other ≡ number) group) where
  front_none : (key : ShadowKey) → key.table ≡ number → body_among front key ≡ None
  front_none key same = not_under front key (all_weaker (λ other. other < number) (λ other. other ≡ key.table → ⊥) front (λ other below e. absurd (omega (arith, below, e, same))) less)

  -- what is found under the number is found in the group
  in_group : (key : ShadowKey) → key.table ≡ number → body_among (front ++ group) key ≡ body_among group key
  in_group key same = behind_none front group key (front_none key same)

  -- and what is found under another is found in front
  in_front : (key : ShadowKey) → (key.table ≡ number → ⊥) → body_among (front ++ group) key ≡ body_among front key
  in_front key apart = none_behind front group key (not_under group key (all_weaker (λ other. other ≡ number) (λ other. other ≡ key.table → ⊥) group (λ other is e. apart (sym e ∙ is)) own))

  module _ (table : PlacedTable) (are : AreRecordsOf number table group) where
    body_own : (key : ShadowKey) → key.table ≡ number → body_among group key ≡ body_of table key
    body_own key same = are key ∙ cond-true (key.table == number) (body_of table key) None (eq-eqb key.table number same)

    -- the versions with one more have the records
    pub holds_more : (versions : List (Option VersionState)) (version : VersionState) → version.table ≡ table → HoldsRecords (tables_of front) versions → 1 ≤ number → number ≤ length versions →
        HoldsRecords (tables_of (front ++ group)) (slice_set versions (number - 1) (Some version))
    holds_more versions version is holds low high key = in_map (front ++ group) key ∙ by_number (key.table == number) refl where
      by_number : (b : Bool) → (key.table == number) ≡ b → body_among (front ++ group) key ≡ record_in (table_in (under key.table (slice_set versions (number - 1) (Some version)))) key
      by_number true e =
          let same = eqb-true key.table number e in
          in_group key same ∙ body_own key same
          ∙ sym (ap (λ o. record_in (table_in o) key) (ap (λ m. under m (slice_set versions (number - 1) (Some version))) same ∙ under_own versions number version low high) ∙ ap (λ t. body_of t key) is)
      by_number false e =
          let apart : key.table ≡ number → ⊥ = λ same. absurd (false_true (sym e ∙ eq-eqb key.table number same)) in
          in_front key apart ∙ sym (in_map front key) ∙ holds key ∙ sym (ap (λ o. record_in (table_in o) key) (under_other versions number key.table version low apart)) where
            false_true : false ≡ true → ⊥
            false_true never = cc

    -- the records stand for the catalog with the table behind the others
    pub stands_more : (versions : List (Option VersionState)) (version : VersionState) → version.table ≡ table → StandsFor (tables_of front) (catalog_of versions) → HoldsRecords (tables_of front) versions →
        IsNext (catalog_of versions).tables number group table → number ≤ length versions →
        StandsFor (tables_of (front ++ group)) (catalog_of (slice_set versions (number - 1) (Some version)))
    stands_more versions version is stands holds next high = record {
      numbered = stands.numbered ++ numbered_as number table ∷ [];
      shows = shows;
      valid = subst IsValidCatalog shows (valid_more stands.numbered number table (subst IsValidCatalog (sym stands.shows) stands.valid) below next.low next.high next.placed (subst (λ (c : Catalog). HasRoom c.tables table) (sym stands.shows) next.room));
      placed = placed_more stands.numbered (numbered_as number table) stands.placed next.placed;
      holds = λ key. in_map (front ++ group) key ∙ by_number key (key.table == number) refl;
    } where
      below : AllByRecursion (λ (t : NumberedTable). t.number < number) stands.numbered
      below = stands_below front (catalog_of versions) stands number less

      base_is : 1 + (number - 1) ≡ number
      base_is = let low = next.low in omega (arith, low)

      named_is : named_as (1 + (number - 1)) version ≡ named (numbered_as number table)
      named_is = ap (λ n. named_as n version) base_is ∙ ap (λ (t : PlacedTable). named (numbered_as number t)) is

      shows : standing.catalog_of (stands.numbered ++ numbered_as number table ∷ []) ≡ catalog_of (slice_set versions (number - 1) (Some version))
      shows =
          ap (λ (l : List Named). record { tables = l })
          (named_append stands.numbered (numbered_as number table ∷ []) ∙ ap (λ (c : Catalog). c.tables ++ named (numbered_as number table) ∷ []) stands.shows
          ∙ ap (λ t. numbered 1 versions ++ t ∷ []) (sym named_is) ∙ sym (numbered_with front versions number version holds less next.low high))

      none_yet : table_of stands.numbered number ≡ None
      none_yet = at (table_of stands.numbered number) refl where
        at : (o : Option PlacedTable) → table_of stands.numbered number ≡ o → o ≡ None
        at None e = refl
        at (Some v) e =
            let never : number < number = numbers_among (λ other. other < number) front number v less (stands.holds (info_key number) ∙ ap (λ o. record_in o (info_key number)) e) in
            absurd (omega (arith, never))

      by_number : (key : ShadowKey) (b : Bool) → (key.table == number) ≡ b → body_among (front ++ group) key ≡ record_of (stands.numbered ++ numbered_as number table ∷ []) key
      by_number key true e =
          let same = eqb-true key.table number e in
          in_group key same ∙ body_own key same ∙ sym (ap (λ o. record_in o key) (ap (table_of (stands.numbered ++ numbered_as number table ∷ [])) same ∙ of_append_own stands.numbered number table none_yet))
      by_number key false e =
          let apart : number ≡ key.table → ⊥ = λ same. absurd (false_true (sym e ∙ eq-eqb key.table number (sym same))) in
          in_front key (λ same. apart (sym same)) ∙ sym (in_map front key) ∙ stands.holds key ∙ sym (ap (λ o. record_in o key) (of_append_other stands.numbered number table key.table apart)) where
            false_true : false ≡ true → ⊥
            false_true never = cc

-- ---- one table for some records

pub one_for : (number : ℕ) (records : Records) (v w : PlacedTable) → IsPlaced v → IsPlaced w → AreRecordsOf number v records → AreRecordsOf number w records → v ≡ w
one_for number records v w placed also are other = one_table one_text number v w (body_among records) placed also (under_number v are) (under_number w other) where
  under_number : (t : PlacedTable) → AreRecordsOf number t records → RecordsAre number t (body_among records)
  under_number t are key same = are key ∙ cond-true (key.table == number) (body_of t key) None (eq-eqb key.table number same)

-- ---- damage

-- the records with less numbers stand for a catalog
pub stand_up_to : (front rest : Records) (catalog : Catalog) (last : ℕ) → StandsFor (tables_of front) catalog → AllUnder (λ other. last < other) rest → StandUpTo last (tables_of (front ++ rest))
stand_up_to front rest catalog last stands above = record {
  numbered = stands.numbered;
  valid = subst IsValidCatalog (sym stands.shows) stands.valid;
  placed = stands.placed;
  holds = λ key low.
      in_map (front ++ rest) key
      ∙ none_behind front rest key (not_under rest key (all_weaker (λ other. last < other) (λ other. other ≡ key.table → ⊥) rest (λ other more e. absurd (omega (arith, more, e, low))) above))
      ∙ sym (in_map front key) ∙ stands.holds key;
}

module _ (front : Records) (first : ShadowKey × List ℕ) (group rest : Records) (catalog : Catalog) (number : ℕ)
    (less : AllUnder (λ other. other < number) front) (own : AllUnder (λ other. other ≡ number) (first ∷ group)) (above : AllUnder (λ other. number < other) rest)
    (stands : StandsFor (tables_of front) catalog) (up_to : StandUpTo number (tables_of (front ++ ((first ∷ group) ++ rest)))) where
  rest_none : (key : ShadowKey) → key.table ≤ number → body_among rest key ≡ None
  rest_none key low = not_under rest key (all_weaker (λ other. number < other) (λ other. other ≡ key.table → ⊥) rest (λ other more e. absurd (omega (arith, more, e, low))) above)

  -- up to the number all is found in front or in the group
  up_to_is : (key : ShadowKey) → key.table ≤ number → body_among (front ++ (first ∷ group)) key ≡ record_of up_to.numbered key
  up_to_is key low =
      sym (none_behind (front ++ (first ∷ group)) rest key (rest_none key low)) ∙ ap (λ records. body_among records key) (append_assoc front (first ∷ group) rest)
      ∙ sym (in_map (front ++ ((first ∷ group) ++ rest)) key) ∙ up_to.holds key low

  -- under lesser numbers stand the same tables
  same_below : (m : ℕ) → m < number → table_of up_to.numbered m ≡ table_of stands.numbered m
  same_below m low = by_both (table_of up_to.numbered m) (table_of stands.numbered m) refl refl where
    both : (key : ShadowKey) → key.table ≡ m → record_of stands.numbered key ≡ record_of up_to.numbered key
    both key same = sym (stands.holds key) ∙ in_map front key ∙ sym (in_front front (first ∷ group) number less own key (λ e. absurd (omega (arith, same, e, low)))) ∙ up_to_is key (omega (arith, same, low))

    of_stands : (o : Option PlacedTable) → table_of stands.numbered m ≡ o → (key : ShadowKey) → key.table ≡ m → record_of stands.numbered key ≡ record_in o key
    of_stands o e key same = ap (λ p. record_in p key) (ap (table_of stands.numbered) same ∙ e)

    of_up_to : (o : Option PlacedTable) → table_of up_to.numbered m ≡ o → (key : ShadowKey) → key.table ≡ m → record_of up_to.numbered key ≡ record_in o key
    of_up_to o e key same = ap (λ p. record_in p key) (ap (table_of up_to.numbered) same ∙ e)

    by_both : (o p : Option PlacedTable) → table_of up_to.numbered m ≡ o → table_of stands.numbered m ≡ p → o ≡ p
    by_both None None e f = refl
    by_both (Some v) None e f = absurd (some_none _ (sym (of_up_to (Some v) e (info_key m) refl) ∙ sym (both (info_key m) refl) ∙ of_stands None f (info_key m) refl))
    by_both None (Some w) e f = absurd (some_none _ (sym (of_stands (Some w) f (info_key m) refl) ∙ both (info_key m) refl ∙ of_up_to None e (info_key m) refl))
    by_both (Some v) (Some w) e f = ap Some (one_table one_text m v w (get (tables_of front)) (each_placed up_to.numbered m v up_to.placed e) (each_placed stands.numbered m w stands.placed f)
        (λ key same. stands.holds key ∙ both key same ∙ of_up_to (Some v) e key same) (λ key same. stands.holds key ∙ of_stands (Some w) f key same))

  -- the group's records are those of a table that may stand behind the others
  next_there : (table : PlacedTable) → table_of up_to.numbered number ≡ Some table → IsNext catalog.tables number (first ∷ group) table
  next_there table there =
      let bounds = number_bounds 0 up_to.numbered number table up_to.valid.numbers there in
      let start = begins 0 stands.numbered up_to.numbered number table (ap (λ (c : Catalog). numbers_rise 0 c.tables) stands.shows ∙ stands.valid.numbers) up_to.valid.numbers (stands_below front catalog stands number less) there
      (λ m positive low. same_below m low) in
      record {
        low = let positive = bounds.0 in omega (arith, positive);
        high = bounds.1;
        placed = each_placed up_to.numbered number table up_to.placed there;
        are = λ key. by_number key (key.table == number) refl;
        room = subst (λ (c : Catalog). HasRoom c.tables table) stands.shows (room_among stands.numbered number table start.0 up_to.numbered start.1 up_to.valid);
      }
    where
      by_number : (key : ShadowKey) (b : Bool) → (key.table == number) ≡ b → body_among (first ∷ group) key ≡ cond b (body_of table key) None
      by_number key true e =
          let same = eqb-true key.table number e in
          sym (in_group front (first ∷ group) number less own key same) ∙ up_to_is key (omega (arith, same)) ∙ ap (λ o. record_in o key) (ap (table_of up_to.numbered) same ∙ there)
      by_number key false e = not_under (first ∷ group) key (all_weaker (λ other. other ≡ number) (λ other. other ≡ key.table → ⊥) (first ∷ group) (λ other is same. false_true (sym e ∙ eq-eqb key.table number (sym same ∙ is))) own) where
        false_true : false ≡ true → ⊥
        false_true never = cc

  pub no_up_to : IsRefused catalog.tables number (first ∷ group) → ⊥
  no_up_to refused = by_table (table_of up_to.numbered number) refl where
    by_table : (o : Option PlacedTable) → table_of up_to.numbered number ≡ o → ⊥
    by_table (Some table) there = refused table (next_there table there)
    by_table None none =
        let same = own.0 in
        let found : body_among (first ∷ group) first.0 ≡ Some first.1 = found_first in
        some_none first.1 (sym found ∙ sym (in_group front (first ∷ group) number less own first.0 same) ∙ up_to_is first.0 (omega (arith, same)) ∙ ap (λ o. record_in o first.0) (ap (table_of up_to.numbered) same ∙ none))
      where
        found_first : body_among (first ∷ group) first.0 ≡ Some first.1
        found_first = cond-true (is_key first.0 first.0) (Some first.1) (body_among group first.0) (is_key-same first.0)
