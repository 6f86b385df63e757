-- The place that a new row takes in a table: its number is small, it is free, and its chunk has the row's partition values.
use Rattle.std.proofs.Common.{◌≡◌, ℕ, zero, suc, ◌+◌, ◌<◌, ◌≤◌, ◌^◌, Bool, true, false, cond, List, [], ◌∷◌, ◌∙◌, refl, sym, ap, subst, arith, length, Option, Some, None}
use Rattle.std.specs.Prelude.{◌==◌, ◌&&◌, not, filter, nat_lt, is_some}
use Rattle.std.specs.List.{list_all, AllByRecursion}
use Rattle.std.specs.Option.{option_map}
use Rattle.std.proofs.lemmas.Bool.{and_parts, and_from, eqb-true, ltb-true, lt-ltb}
use Rattle.vec_base.specs.declared.limits.TheConstants.{MOST_ROWS}
use Rattle.vec_base.specs.declared.value.Value.{Value}
use Rattle.row_model.specs.declared.row.Row.{Row}
use Rattle.slot_alloc.specs.Places.{PlaceMap, has_chunk}
use Rattle.slot_alloc.specs.SlotRule.{IsPlaceFor, chunk_of, slot_of}
use Rattle.slot_alloc.specs.declared.place.Place.{Place}
use Rattle.slot_alloc.specs.declared.place.Place.TheVariants.{Slot, NewChunk}
use Rattle.shadow_records.specs.PlacedTables.{PlacedRow, PlacedTable, IsPlaced, AreAlike, AreApart, first_in, is_place, partition_of, row_at}
use Rattle.table_version.specs.Inserting.{ArePlacesOf, partition_in}
use Rattle.table_version.proofs.PlacedLaws.{apart-from, alike-from}

-- ---- many chunks take many rows

abbrev others : ℕ → List PlacedRow → List PlacedRow
others n ps = filter (λ p. not (p.chunk == n)) ps

others_no_more : (n : ℕ) (ps : List PlacedRow) → length (others n ps) ≤ length ps
others_no_more n [] = omega arith
others_no_more n (p ∷ ps) = by_test (others_no_more n ps) (p.chunk == n) where
  by_test : length (others n ps) ≤ length ps → (t : Bool) → length (cond (not t) (p ∷ others n ps) (others n ps)) ≤ suc (length ps)
  by_test rest true = omega (arith, rest)
  by_test rest false = omega (arith, rest)

others_fewer : (n : ℕ) (ps : List PlacedRow) → is_some (first_in ps n) ≡ true → suc (length (others n ps)) ≤ length ps
others_fewer n [] there = absurd cc
others_fewer n (p ∷ ps) there = by_test (λ h. others_fewer n ps h) (p.chunk == n) there where
  by_test : (is_some (first_in ps n) ≡ true → suc (length (others n ps)) ≤ length ps) → (t : Bool) → is_some {T = PlacedRow} (cond t (Some p) (first_in ps n)) ≡ true →
      suc (length (cond (not t) (p ∷ others n ps) (others n ps))) ≤ suc (length ps)
  by_test rest true h = let less = others_no_more n ps in omega (arith, less)
  by_test rest false h = let less = rest h in omega (arith, less)

differ : (d n : ℕ) → d < n → (n == d) ≡ false
differ d n less = by_test (n == d) refl where
  by_test : (t : Bool) → (n == d) ≡ t → t ≡ false
  by_test false e = refl
  by_test true e = let same = eqb-true n d e in absurd (omega (arith, less, same))

-- a chunk of another number has the rows that it had
others_first : (n d : ℕ) (ps : List PlacedRow) → (n == d) ≡ false → first_in (others n ps) d ≡ first_in ps d
others_first n d [] other = refl
others_first n d (p ∷ ps) other = by_test (others_first n d ps other) (p.chunk == n) refl where
  by_test : first_in (others n ps) d ≡ first_in ps d → (t : Bool) → (p.chunk == n) ≡ t →
      first_in (cond (not t) (p ∷ others n ps) (others n ps)) d ≡ cond (p.chunk == d) (Some p) (first_in ps d)
  by_test rest true e =
      let same = eqb-true p.chunk n e in
      let out : (p.chunk == d) ≡ false = ap (λ (c : ℕ). c == d) same ∙ other in
      rw out rest
  by_test rest false e = ap (cond (p.chunk == d) (Some p)) rest

-- where all chunks up to a number have a row, there are that many rows
chunks_counted : (n : ℕ) (ps : List PlacedRow) → ((d : ℕ) → 0 < d → d ≤ n → is_some (first_in ps d) ≡ true) → n ≤ length ps
chunks_counted zero ps all = omega arith
chunks_counted (suc n) ps all =
    let fewer = others_fewer (suc n) ps (all (suc n) (omega arith) (omega arith)) in
    let rest = chunks_counted n (others (suc n) ps) (λ d low high. ap is_some (others_first (suc n) d ps (differ d (suc n) (omega (arith, high)))) ∙ all d low (omega (arith, high))) in
    omega (arith, fewer, rest)

-- ---- rows by what the places show

map_some : {A B : Type 0} (f : A → B) (o : Option A) → is_some (option_map f o) ≡ is_some o
map_some f None = refl
map_some f (Some x) = refl

none_left : {A B : Type 0} (f : A → B) (o : Option A) → is_some (option_map f o) ≡ false → o ≡ None
none_left f None h = refl
none_left f (Some x) h = absurd cc

chunk_rows : (table : PlacedTable) (places : PlaceMap) → ArePlacesOf table places → (c : ℕ) → has_chunk places c ≡ is_some (first_in table.rows c)
chunk_rows table places are c = ap is_some (are.chunks c) ∙ map_some (partition_in table.schema.columns) (first_in table.rows c)

first_of : (size c : ℕ) (ps : List PlacedRow) → list_all (is_place size) ps ≡ true → is_some (first_in ps c) ≡ true → (0 < c) × (c < 2 ^ 32)
first_of size c [] all there = absurd cc
first_of size c (p ∷ ps) all there = by_test (λ h. first_of size c ps (and_parts (is_place size p) (list_all (is_place size) ps) all).1 h) (p.chunk == c) refl there where
  by_test : (is_some (first_in ps c) ≡ true → (0 < c) × (c < 2 ^ 32)) → (t : Bool) → (p.chunk == c) ≡ t → is_some {T = PlacedRow} (cond t (Some p) (first_in ps c)) ≡ true → (0 < c) × (c < 2 ^ 32)
  by_test rest true e h =
      let same = eqb-true p.chunk c e in
      let here = (and_parts (is_place size p) (list_all (is_place size) ps) all).0 in
      let parts = and_parts (nat_lt 0 p.chunk) (nat_lt p.chunk (2 ^ 32) && nat_lt p.slot size) here in
      let low = ltb-true 0 p.chunk parts.0 in
      let high = ltb-true p.chunk (2 ^ 32) (and_parts (nat_lt p.chunk (2 ^ 32)) (nat_lt p.slot size) parts.1).0 in
      subst (λ (d : ℕ). (0 < d) × (d < 2 ^ 32)) same (low, high)
  by_test rest false e h = rest h

-- ---- the place of a new row

-- a table with room, and the place that a row with these partition values takes in it
pub record HasPlace (table : PlacedTable) (places : PlaceMap) (partition : List Value) (place : Place) : Type 0 where
  pub sound : IsPlaced table
  pub slots : 0 < table.schema.chunk_size
  pub few : length table.rows + 1 ≤ MOST_ROWS
  pub are : ArePlacesOf table places
  pub taken : IsPlaceFor places partition place

is_place_at : (size c s : ℕ) (row : Row) → 0 < c → c < 2 ^ 32 → s < size → is_place size (record { row = row; chunk = c; slot = s }) ≡ true
is_place_at size c s row low high within = and_from _ _ (lt-ltb 0 c low) (and_from _ _ (lt-ltb c (2 ^ 32) high) (lt-ltb s size within))

pub new_place : (table : PlacedTable) (places : PlaceMap) (partition : List Value) (place : Place) (row : Row) → HasPlace table places partition place →
    is_place table.schema.chunk_size (record { row = row; chunk = chunk_of place; slot = slot_of place }) ≡ true
new_place table places partition (Slot c s) row has =
    let there : is_some (first_in table.rows c) ≡ true = sym (chunk_rows table places has.are c) ∙ ap is_some has.taken.chunk in
    let number = first_of table.schema.chunk_size c table.rows has.sound.places there in
    let within : s < table.schema.chunk_size = subst (λ (n : ℕ). s < n) has.are.size has.taken.within in
    is_place_at table.schema.chunk_size c s row number.0 number.1 within
new_place table places partition (NewChunk zero) row has = let never = has.taken.positive in absurd (omega (arith, never))
new_place table places partition (NewChunk (suc n)) row has =
    let counted = chunks_counted n table.rows (λ d low high. sym (chunk_rows table places has.are d) ∙ has.taken.lower d low (omega (arith, high))) in
    let few = has.few in
    is_place_at table.schema.chunk_size (suc n) 0 row (omega arith) (omega (arith, counted, few)) has.slots

none_first : (c s : ℕ) (ps : List PlacedRow) → first_in ps c ≡ None → row_at ps c s ≡ None
none_first c s [] none = refl
none_first c s (p ∷ ps) none = by_test (λ h. none_first c s ps h) (p.chunk == c) none where
  by_test : (first_in ps c ≡ None → row_at ps c s ≡ None) → (t : Bool) → cond t (Some p) (first_in ps c) ≡ None → cond (t && p.slot == s) (Some p) (row_at ps c s) ≡ None
  by_test rest true h = absurd cc
  by_test rest false h = rest h

pub new_apart : (table : PlacedTable) (places : PlaceMap) (partition : List Value) (place : Place) (row : Row) → HasPlace table places partition place →
    AllByRecursion (AreApart (record { row = row; chunk = chunk_of place; slot = slot_of place })) table.rows
new_apart table places partition (Slot c s) row has =
    let free : is_some (option_map (partition_in table.schema.columns) (row_at table.rows c s)) ≡ false = sym (ap is_some (has.are.used c s)) ∙ has.taken.free in
    apart-from (record { row = row; chunk = c; slot = s }) table.rows (none_left (partition_in table.schema.columns) (row_at table.rows c s) free)
new_apart table places partition (NewChunk c) row has =
    let free : is_some (option_map (partition_in table.schema.columns) (first_in table.rows c)) ≡ false = sym (ap is_some (has.are.chunks c)) ∙ has.taken.unused in
    apart-from (record { row = row; chunk = c; slot = 0 }) table.rows (none_first c 0 table.rows (none_left (partition_in table.schema.columns) (first_in table.rows c) free))

first_values : (f : PlacedRow → List Value) (o : Option PlacedRow) (q : PlacedRow) (partition : List Value) → option_map f o ≡ Some partition → o ≡ Some q → partition ≡ f q
first_values f None q partition is found = absurd cc
first_values f (Some p) q partition is found =
    let same : p ≡ q = cc in
    let values : f p ≡ partition = cc in
    sym values ∙ ap f same

pub new_alike : (table : PlacedTable) (places : PlaceMap) (place : Place) (row : Row) → HasPlace table places (partition_of table.schema.columns row.values) place →
    AllByRecursion (AreAlike table.schema.columns (record { row = row; chunk = chunk_of place; slot = slot_of place })) table.rows
new_alike table places (Slot c s) row has =
    alike-from table.schema.columns (record { row = row; chunk = c; slot = s }) table.rows has.sound.alike
    (λ q found. first_values (partition_in table.schema.columns) (first_in table.rows c) q (partition_of table.schema.columns row.values) (sym (has.are.chunks c) ∙ has.taken.chunk) found)
new_alike table places (NewChunk c) row has =
    let free : is_some (option_map (partition_in table.schema.columns) (first_in table.rows c)) ≡ false = sym (ap is_some (has.are.chunks c)) ∙ has.taken.unused in
    let none = none_left (partition_in table.schema.columns) (first_in table.rows c) free in
    alike-from table.schema.columns (record { row = row; chunk = c; slot = 0 }) table.rows has.sound.alike (λ q found. absurd (never q (sym none ∙ found)))
  where
    never : (q : PlacedRow) → None ≡ Some q → ⊥
    never q e = absurd cc
