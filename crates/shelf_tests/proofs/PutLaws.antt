-- A table that is put on a shelf stands there.
use Rattle.std.proofs.Common.{◌≡◌, ℕ, ◌-◌, ◌<◌, ◌≤◌, List, length, get_or, set, Option, Some, None, sym, ap, ◌∙◌, arith}
use Rattle.std.proofs.Math.ListN.{get_or-map}
use Rattle.std.proofs.lemmas.List.{length-map, get_or-set_same}
use Rattle.vec_base.specs.declared.limits.TheConstants.{MOST_TABLES}
use Rattle.table_version.specs.Versions.{VersionState}
use Rattle.version_shelf.specs.OnShelf.{at_place, OnShelf, shown}
use Rattle.shelf_tests.specs.OneTable.{HasTable, one_column}

pub put_there : (old new : List (Option VersionState)) (before after : List (Option ℕ)) (number : ℕ) (version : VersionState) → 1 ≤ number → number ≤ MOST_TABLES → length before ≡ MOST_TABLES → OnShelf new after →
    shown new after ≡ set (shown old before) (number - 1) (Some version) → version.table.schema.columns ≡ one_column → HasTable new after number
put_there old new before after number version low high wide on is columns =
    let less : number - 1 < length (shown old before) = rw (length-map, wide) (omega (arith, low, high)) in
    record {
      low = low;
      high = high;
      on = on;
      version = version;
      there = sym (get_or-map (at_place new) after (number - 1) None) ∙ ap (λ l. get_or l (number - 1) None) is ∙ get_or-set_same (shown old before) (number - 1) (Some version) None less;
      columns = columns;
    }
