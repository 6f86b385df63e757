-- A named place that is free, in a chunk whose rows have the partition values of the new one.
use Rattle.std.proofs.Common.{◌≡◌, ℕ, true, false, List, refl, sym, ap, ◌∙◌, Some, None}
use Rattle.std.specs.Prelude.{is_some}
use Rattle.std.specs.Option.{option_map}
use Rattle.std.specs.declared.option.Option.{Option}
use Rattle.vec_base.specs.declared.value.Value.{Value}
use Rattle.row_store.specs.StoredRows.{StoredRow, PlacesAre, first_in, row_at}
use Rattle.slot_alloc.specs.Places.{PlaceMap, IsPlaceMap, has_chunk, is_used, partition_at, partition_of_chunk}

abbrev values_in : StoredRow → List Value
values_in row = row.partition

module _ (slots : ℕ) (rows : List StoredRow) (places : PlaceMap) (are : PlacesAre slots rows places) (c s : ℕ) (partition : List Value)
    (alike : (row : StoredRow) → first_in rows c ≡ Some row → row.partition ≡ partition) where
  -- a place without a row is not used
  pub free-unused : row_at rows c s ≡ None → is_used places c s ≡ false
  free-unused none = ap is_some (are.used c s ∙ ap (option_map values_in) none)

  -- the chunk, where it is there, has the values
  pub alike-chunk : has_chunk places c ≡ true → partition_of_chunk places c ≡ Some partition
  alike-chunk there = are.chunks c ∙ by_first (first_in rows c) refl where
    by_first : (o : Option StoredRow) → first_in rows c ≡ o → option_map values_in o ≡ Some partition
    by_first None is = let never : true ≡ false = sym there ∙ ap is_some (are.chunks c ∙ ap (option_map values_in) is) in absurd cc
    by_first (Some row) is = ap (λ values. Some values) (alike row is)

  -- each used place of the chunk has them
  pub alike-values : IsPlaceMap places → (t : ℕ) (other : List Value) → partition_at places c t ≡ Some other → other ≡ partition
  alike-values known t other is =
      let whole = known.alike c t other is in
      let same : Some other ≡ Some partition = sym whole ∙ alike-chunk (ap is_some whole) in
      cc
