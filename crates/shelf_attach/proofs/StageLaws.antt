-- One group of records after another.
use Rattle.std.proofs.Common.{◌≡◌, ℕ, zero, suc, ◌+◌, ◌-◌, ◌<◌, ◌≤◌, true, List, [], ◌∷◌, ◌++◌, length, take, drop, refl, sym, ap, ◌∙◌, subst, arith, Option, Some, None, append_assoc}
use Rattle.std.proofs.lemmas.List.{length-map, length-replicate, length-set, take-append-drop}
use Rattle.std.specs.Prelude.{replicate}
use Rattle.std.specs.FinMap.{is_sorted}
use Rattle.row_model.specs.Change.{rows_side_bytes, rows_vector_bytes}
use Rattle.row_model.specs.Valid.{IsValidCatalog, tables_side_bytes, tables_vector_bytes}
use Rattle.row_model.specs.declared.row.Named.{Named}
use Rattle.shadow_keeper.specs.Keeping.{tables_of}
use Rattle.shadow_records.specs.Keys.{key_cmp}
use Rattle.shadow_records.specs.PlacedTables.{IsPlaced, PlacedTable, plain_rows}
use Rattle.shadow_records.specs.StandsFor.{IsDamaged, StandUpTo, StandsFor, record_in}
use Rattle.table_attach.specs.Attaching.{AreRecordsOf, Records}
use Rattle.table_version.specs.Versions.{VersionState}
use Rattle.vec_base.specs.declared.limits.TheConstants.{MOST_TABLES}
use Rattle.vec_base.specs.declared.shadow.ShadowKey.{ShadowKey}
use Rattle.version_shelf.specs.Numbers.{catalog_of, named_as, numbered, under}
use Rattle.version_shelf.specs.OnShelf.{OnShelf, at_place, shown}
use Rattle.version_shelf.specs.Records.{HoldsRecords, table_in}
use Rattle.shelf_attach.specs.declared.built.Built.{Built}
use Rattle.shelf_attach.specs.declared.fault.ShelfFault.TheVariants.{Damaged}
use Rattle.shelf_attach.specs.inner.Building.{Adds, HasRoom, IsBuilt, IsRefused, tables_in, versions_in}
use Rattle.shelf_attach.specs.inner.Grouping.{AllUnder, BeginsElsewhere, IsBefore}
use Rattle.shelf_attach.proofs.BuiltLaws.{holds_more, in_map, one_for, no_up_to, numbered_with, stand_up_to, stands_more}
use Rattle.shelf_attach.proofs.CatalogLaws.{sides_more, vectors_more}
use Rattle.shelf_attach.proofs.GroupLaws.{all_append, all_weaker, before_more, group_behind, sorted_behind, sorted_front}
use Rattle.shelf_attach.proofs.NumberLaws.{none_numbered, none_under}

-- ---- no records

abbrev no_place : Option ℕ
no_place = None

none_on : (shelf : List (Option VersionState)) (n : ℕ) → OnShelf shelf (replicate n None)
none_on shelf zero = tt
none_on shelf (suc n) = (tt, none_on shelf n)

module _ (built : Built) (places : built.held.places ≡ replicate MOST_TABLES None) where
  no_tables : tables_in built ≡ []
  no_tables = ap (λ (p : List (Option ℕ)). numbered 1 (shown built.shelf p)) places ∙ none_numbered built.shelf 1 MOST_TABLES

  no_catalog : catalog_of (versions_in built) ≡ record { tables = [] }
  no_catalog = ap (λ (l : List Named). record { tables = l }) no_tables

  -- no records stand for no tables
  pub built_none : (records : Records) → built.vectors ≡ 0 → built.sides ≡ 0 → IsBuilt records records built
  built_none records vectors sides = record {
    front = [];
    splits = refl;
    before = nothing records;
    counted = record {
      on = subst (OnShelf built.shelf) (sym places) (none_on built.shelf MOST_TABLES);
      long = length-map built.held.places (at_place built.shelf) ∙ ap length places ∙ length-replicate MOST_TABLES no_place;
      vectors = vectors ∙ sym (ap tables_vector_bytes no_tables);
      sides = sides ∙ sym (ap tables_side_bytes no_tables);
      few_vectors = omega (arith, vectors);
      few_sides = omega (arith, sides);
    };
    stands = record {
      numbered = [];
      shows = sym no_catalog;
      valid = subst IsValidCatalog (sym no_catalog) (record { numbers = refl; own_names = refl; names = refl; tables = tt; vectors = refl; sides = refl });
      placed = tt;
      holds = λ key. in_map [] key;
    };
    holds = λ key. in_map [] key ∙ sym (ap (λ o. record_in (table_in o) key) (ap (λ (p : List (Option ℕ)). under key.table (shown built.shelf p)) places ∙ none_under built.shelf MOST_TABLES key.table));
  } where
    nothing : (records : Records) → IsBefore [] records
    nothing [] = tt
    nothing (r ∷ records) = tt

-- ---- one group more

module _ (records : Records) (first : ShadowKey × List ℕ) (others : Records) (more : ℕ) (built : Built) (rise : is_sorted key_cmp records ≡ true) (is : IsBuilt records (first ∷ others) built)
    (own : AllUnder (λ of. of ≡ first.0.table) (first ∷ take more others)) (elsewhere : BeginsElsewhere first.0.table (drop more others)) where
  splits_so : records ≡ is.front ++ ((first ∷ take more others) ++ drop more others)
  splits_so = is.splits ∙ ap (λ (l : Records). is.front ++ first ∷ l) (sym (take-append-drop more others))

  above : AllUnder (λ other. first.0.table < other) (drop more others)
  above = group_behind first.0.table first (take more others) (drop more others) refl (sorted_behind is.front ((first ∷ take more others) ++ drop more others) (ap (is_sorted key_cmp) (sym splits_so) ∙ rise)) elsewhere

  -- a group that no table has, or none that may stand behind the others
  damaged_so : IsRefused (tables_in built) first.0.table (first ∷ take more others) → IsDamaged (tables_of records) (Some first.0.table)
  damaged_so refused = (
    λ up_to. no_up_to is.front first (take more others) (drop more others) (catalog_of (versions_in built)) first.0.table is.before own above is.stands
        (subst (λ (r : Records). StandUpTo first.0.table (tables_of r)) splits_so up_to) refused,
    λ last low. subst (λ (r : Records). StandUpTo last (tables_of r)) (sym splits_so) (stand_up_to is.front ((first ∷ take more others) ++ drop more others) (catalog_of (versions_in built)) last is.stands
        (all_append (λ other. last < other) (first ∷ take more others) (drop more others)
        (all_weaker (λ of. of ≡ first.0.table) (λ other. last < other) (first ∷ take more others) (λ other same. omega (arith, same, low)) own)
        (all_weaker (λ other. first.0.table < other) (λ other. last < other) (drop more others) (λ other greater. omega (arith, greater, low)) above))),
  )

  module _ (new : Built) (adds : Adds built first.0.table (first ∷ take more others) new) where
    long : length (versions_in built) ≡ MOST_TABLES
    long = is.counted.long

    tables_are : tables_in new ≡ tables_in built ++ named_as (1 + (first.0.table - 1)) adds.version ∷ []
    tables_are = (let high = adds.next.high in
        ap (numbered 1) adds.puts.shows ∙ numbered_with is.front (versions_in built) first.0.table adds.version is.holds is.before adds.next.low (omega (arith, long, high)))

    vectors_are : new.vectors ≡ tables_vector_bytes (tables_in new)
    vectors_are =
        adds.puts.vectors ∙ ap (λ n. n + rows_vector_bytes (plain_rows adds.version.table.rows)) is.counted.vectors
        ∙ sym (ap tables_vector_bytes tables_are ∙ vectors_more (tables_in built) (named_as (1 + (first.0.table - 1)) adds.version))

    sides_are : new.sides ≡ tables_side_bytes (tables_in new)
    sides_are =
        adds.puts.sides ∙ ap (λ n. n + rows_side_bytes (plain_rows adds.version.table.rows)) is.counted.sides
        ∙ sym (ap tables_side_bytes tables_are ∙ sides_more (tables_in built) (named_as (1 + (first.0.table - 1)) adds.version))

    more_so : IsBuilt records (drop more others) new
    more_so =
        let high : first.0.table ≤ length (versions_in built) = (let most = adds.next.high in omega (arith, most, long)) in
        record {
          front = is.front ++ (first ∷ take more others);
          splits = splits_so ∙ sym (append_assoc is.front (first ∷ take more others) (drop more others));
          before = before_more first.0.table is.front (first ∷ take more others) (drop more others) is.before own above;
          counted = record {
            on = adds.puts.on;
            long = ap length adds.puts.shows ∙ length-set (versions_in built) (first.0.table - 1) (Some adds.version) ∙ long;
            vectors = vectors_are;
            sides = sides_are;
            few_vectors = (let sum = adds.puts.vectors in let old = is.counted.vectors in let most = adds.next.room.vectors in omega (arith, sum, old, most));
            few_sides = (let sum = adds.puts.sides in let old = is.counted.sides in let most = adds.next.room.sides in omega (arith, sum, old, most));
          };
          stands = subst (λ (vs : List (Option VersionState)). StandsFor (tables_of (is.front ++ (first ∷ take more others))) (catalog_of vs)) (sym adds.puts.shows)
              (stands_more is.front (first ∷ take more others) first.0.table is.before own adds.version.table adds.next.are (versions_in built) adds.version refl is.stands is.holds adds.next high);
          holds = subst (λ (vs : List (Option VersionState)). HoldsRecords (tables_of (is.front ++ (first ∷ take more others))) vs) (sym adds.puts.shows)
              (holds_more is.front (first ∷ take more others) first.0.table is.before own adds.version.table adds.next.are (versions_in built) adds.version refl is.holds adds.next.low high);
        }

-- ---- by the length of the group

module _ (records : Records) (first : ShadowKey × List ℕ) (others : Records) (built : Built) (rise : is_sorted key_cmp records ≡ true) (is : IsBuilt records (first ∷ others) built) where
  damaged_by : (count : ℕ) → AllUnder (λ of. of ≡ first.0.table) (take count (first ∷ others)) → BeginsElsewhere first.0.table (drop count (first ∷ others)) →
      IsRefused (tables_in built) first.0.table (take count (first ∷ others)) → IsDamaged (tables_of records) (Some first.0.table)
  damaged_by zero own elsewhere refused = absurd (elsewhere refl)
  damaged_by (suc more) own elsewhere refused = damaged_so records first others more built rise is own elsewhere refused

  more_by : (count : ℕ) (new : Built) → AllUnder (λ of. of ≡ first.0.table) (take count (first ∷ others)) → BeginsElsewhere first.0.table (drop count (first ∷ others)) →
      Adds built first.0.table (take count (first ∷ others)) new → IsBuilt records (drop count (first ∷ others)) new
  more_by zero new own elsewhere adds = absurd (elsewhere refl)
  more_by (suc more) new own elsewhere adds = more_so records first others more built rise is own elsewhere new adds

-- fewer records are left
left_by : (first : ShadowKey × List ℕ) (others : Records) (count : ℕ) → BeginsElsewhere first.0.table (drop count (first ∷ others)) → length (drop count (first ∷ others)) < length (first ∷ others)
left_by first others zero elsewhere = absurd (elsewhere refl)
left_by first others (suc more) elsewhere = (let most = no_longer more others in omega (arith, most)) where
  no_longer : (n : ℕ) (records : Records) → length (drop n records) ≤ length records
  no_longer zero records = omega arith
  no_longer (suc n) [] = omega arith
  no_longer (suc n) (r ∷ records) = let most = no_longer n records in omega (arith, most)

module _ (rest : Records) (first : ShadowKey × List ℕ) (others : Records) (count : ℕ) (begins : rest ≡ first ∷ others) (elsewhere : BeginsElsewhere first.0.table (drop count rest)) where
  elsewhere_so : BeginsElsewhere first.0.table (drop count (first ∷ others))
  elsewhere_so = subst (λ (r : Records). BeginsElsewhere first.0.table (drop count r)) begins elsewhere

  pub fewer_left : length (drop count rest) < length rest
  fewer_left = subst (λ (r : Records). length (drop count r) < length r) (sym begins) (left_by first others count elsewhere_so)

  module _ (records : Records) (built : Built) (rise : is_sorted key_cmp records ≡ true) (is : IsBuilt records rest built) (own : AllUnder (λ of. of ≡ first.0.table) (take count rest)) where
    own_so : AllUnder (λ of. of ≡ first.0.table) (take count (first ∷ others))
    own_so = subst (λ (r : Records). AllUnder (λ of. of ≡ first.0.table) (take count r)) begins own

    -- no table of the group may stand behind the others
    pub built_damaged : IsRefused (tables_in built) first.0.table (take count rest) → IsDamaged (tables_of records) (Some first.0.table)
    built_damaged refused =
        damaged_by records first others built rise (subst (λ (r : Records). IsBuilt records r built) begins is) count own_so elsewhere_so
        (subst (λ (r : Records). IsRefused (tables_in built) first.0.table (take count r)) begins refused)

    -- its table stands behind the others
    pub built_more : (new : Built) → Adds built first.0.table (take count rest) new → IsBuilt records (drop count rest) new
    built_more new adds =
        subst (λ (r : Records). IsBuilt records (drop count r) new) (sym begins)
        (more_by records first others built rise (subst (λ (r : Records). IsBuilt records r built) begins is) count new own_so elsewhere_so (subst (λ (r : Records). Adds built first.0.table (take count r) new) begins adds))

-- the keys of a group rise
pub group_rises : (records rest : Records) (built : Built) (count : ℕ) → is_sorted key_cmp records ≡ true → IsBuilt records rest built → is_sorted key_cmp (take count rest) ≡ true
group_rises records rest built count rise is =
    sorted_front (take count rest) (drop count rest) (ap (is_sorted key_cmp) (take-append-drop count rest) ∙ sorted_behind is.front rest (ap (is_sorted key_cmp) (sym is.splits) ∙ rise))

-- ---- one table

damaged_number : (number of : ℕ) → Damaged number ≡ Damaged of → of ≡ number
damaged_number number of e = cc

-- where the table whose records these are has no room, no such table may stand behind the others
pub no_room : (tables : List Named) (number : ℕ) (records : Records) (mine : PlacedTable) → IsPlaced mine → AreRecordsOf number mine records → (HasRoom tables mine → ⊥) → (of : ℕ) → Damaged number ≡ Damaged of →
    (of ≡ number) × IsRefused tables number records
no_room tables number records mine placed are none of e =
    (damaged_number number of e, λ table next. none (subst (HasRoom tables) (one_for number records table mine next.placed placed next.are are) next.room))
