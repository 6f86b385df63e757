-- Tables that hold the records of versions stand for the catalog that these show.
use Rattle.std.proofs.Common.{◌≡◌, ℕ, zero, suc, ◌+◌, ◌<◌, ◌≤◌, Bool, true, false, List, [], ◌∷◌, length, map, refl, sym, ap, ◌∙◌, subst, arith, Option, Some, None}
use Rattle.std.specs.Prelude.{◌==◌, nat_lt, slice_index_or}
use Rattle.std.proofs.lemmas.Bool.{cond-false, cond-true, eq-eqb, ltb-false, ltb-true, ne_eqb}
use Rattle.std.specs.List.{AllByRecursion}
use Rattle.row_model.specs.Valid.{IsValidCatalog}
use Rattle.row_model.specs.declared.row.Named.{Named}
use Rattle.shadow_records.specs.Keys.{Tables}
use Rattle.shadow_records.specs.PlacedTables.{IsPlaced, PlacedTable}
use Rattle.shadow_records.specs.StandsFor.{NumberedTable, StandsFor, named, record_in, table_of}
use Rattle.table_version.specs.Versions.{VersionState}
use Rattle.txn_commits.specs.Standing.{ArePlaced, IsPlacedIn}
use Rattle.std.proofs.Math.ListN.{get_or-map}
use Rattle.version_shelf.specs.Numbers.{catalog_of, numbered, under}
use Rattle.version_shelf.specs.OnShelf.{at_place, shown}
use Rattle.version_shelf.specs.Records.{HoldsRecords, table_in}

-- the tables of the versions, which stand under the numbers from a base on
abbrev placed_from : ℕ → List (Option VersionState) → List NumberedTable
placed_from base [] = []
placed_from base (None ∷ versions) = placed_from (suc base) versions
placed_from base (Some version ∷ versions) = record { number = base; table = version.table } ∷ placed_from (suc base) versions

names_from : (base : ℕ) (versions : List (Option VersionState)) → map named (placed_from base versions) ≡ numbered base versions
names_from base [] = refl
names_from base (None ∷ versions) = names_from (suc base) versions
names_from base (Some version ∷ versions) = ap (λ (l : List Named). named (record { number = base; table = version.table }) ∷ l) (names_from (suc base) versions)

all_from : (base : ℕ) (versions : List (Option VersionState)) → ArePlaced versions → AllByRecursion (λ (t : NumberedTable). IsPlaced t.table) (placed_from base versions)
all_from base [] placed = tt
all_from base (None ∷ versions) placed = all_from (suc base) versions placed.1
all_from base (Some version ∷ versions) placed = (placed.0, all_from (suc base) versions placed.1)

eq_own : (n : ℕ) → (n == n) ≡ true
eq_own n = eq-eqb n n refl

-- below the base there is none
none_below : (base number : ℕ) (versions : List (Option VersionState)) → number < base → table_of (placed_from base versions) number ≡ None
none_below base number [] below = refl
none_below base number (None ∷ versions) below = none_below (suc base) number versions (omega (arith, below))
none_below base number (Some version ∷ versions) below =
    cond-false _ _ _ (ne_eqb base number (λ same. absurd (omega (arith, below, same)))) ∙ none_below (suc base) number versions (omega (arith, below))

at_number : (base at : ℕ) (versions : List (Option VersionState)) → table_of (placed_from base versions) (base + at) ≡ table_in (slice_index_or versions at None)
at_number base at [] = refl
at_number base zero (None ∷ versions) = none_below (suc base) (base + 0) versions (omega arith)
at_number base (suc at) (None ∷ versions) = (let same : base + suc at ≡ suc base + at = omega arith in ap (table_of (placed_from (suc base) versions)) same) ∙ at_number (suc base) at versions
at_number base zero (Some version ∷ versions) = cond-true _ _ _ (eq-eqb base (base + 0) (omega arith))
at_number base (suc at) (Some version ∷ versions) =
    cond-false _ _ _ (ne_eqb base (base + suc at) (λ same. absurd (omega (arith, same))))
    ∙ (let same : base + suc at ≡ suc base + at = omega arith in ap (table_of (placed_from (suc base) versions)) same) ∙ at_number (suc base) at versions

by_number : (versions : List (Option VersionState)) (number : ℕ) → table_of (placed_from 1 versions) number ≡ table_in (under number versions)
by_number versions zero = none_below 1 0 versions (omega arith)
by_number versions (suc at) = (let same : suc at ≡ 1 + at = omega arith in ap (table_of (placed_from 1 versions)) same) ∙ at_number 1 at versions

pub stands : (tables : Tables) (versions : List (Option VersionState)) → ArePlaced versions → IsValidCatalog (catalog_of versions) → HoldsRecords tables versions → StandsFor tables (catalog_of versions)
stands tables versions placed valid holds = record {
  numbered = placed_from 1 versions;
  shows = ap (λ (l : List Named). record { tables = l }) (names_from 1 versions);
  valid = valid;
  placed = all_from 1 versions placed;
  holds = λ key. holds key ∙ ap (λ (t : Option PlacedTable). record_in t key) (sym (by_number versions key.table));
}

-- ---- each version of a catalog is a sound one

pub placed_there : (shelf : List (Option VersionState)) (places : List (Option ℕ)) (n : ℕ) (version : VersionState) → at_place shelf (slice_index_or places n None) ≡ Some version → IsPlaced version.table →
    IsPlacedIn (slice_index_or (shown shelf places) n None)
placed_there shelf places n version is placed = subst IsPlacedIn (sym (get_or-map (at_place shelf) places n None ∙ is)) placed

pub none_there : (shelf : List (Option VersionState)) (places : List (Option ℕ)) (n : ℕ) → at_place shelf (slice_index_or places n None) ≡ None → IsPlacedIn (slice_index_or (shown shelf places) n None)
none_there shelf places n is = subst IsPlacedIn (sym (get_or-map (at_place shelf) places n None ∙ is)) tt

pub all_placed : (versions : List (Option VersionState)) → ((n : ℕ) → n < length versions → IsPlacedIn (slice_index_or versions n None)) → ArePlaced versions
all_placed [] each = tt
all_placed (version ∷ versions) each = (each 0 (omega arith), all_placed versions (λ n within. each (suc n) (omega (arith, within))))

-- one number more
pub one_more : (P : ℕ → Type 0) (at : ℕ) → ((n : ℕ) → n < at → P n) → P at → (n : ℕ) → n < at + 1 → P n
one_more P at before here n within = by_test (nat_lt n at) refl where
  by_test : (b : Bool) → nat_lt n at ≡ b → P n
  by_test true less = before n (ltb-true n at less)
  by_test false most = let above : at ≤ n = ltb-false n at most in let same : at ≡ n = omega (arith, within, above) in subst P same here
