-- Versions by place, with the place of the one that each follows.
use Rattle.std.specs.Prelude.{ℕ, cond, eqb, List, map, Option, Some, None, slice_index_or}
use Rattle.table_version.specs.Versions.{VersionState}
use Rattle.version_shelf.specs.Shares.{ComesFrom}
use Rattle.version_shelf.specs.declared.slots.Kept.{Kept}

abbrev pub version_in : Option Kept → Option VersionState
version_in None = None
version_in (Some kept) = Some kept.version

abbrev pub origin_in : Option Kept → Option ℕ
origin_in None = None
origin_in (Some kept) = kept.origin

abbrev pub versions : List (Option Kept) → List (Option VersionState)
versions slots = map version_in slots

-- each version follows the one that it names
abbrev pub AllFollow : List (Option Kept) → Type 0
AllFollow slots = (place : ℕ) → ComesFrom (versions slots) (origin_in (slice_index_or slots place None)) (slice_index_or (versions slots) place None)

-- the place is named no more
abbrev pub but : ℕ → Option ℕ → Option ℕ
but place None = None
but place (Some origin) = cond (eqb origin place) None (Some origin)

abbrev pub cleared : ℕ → Option Kept → Option Kept
cleared place None = None
cleared place (Some kept) = Some (record { version = kept.version; origin = but place kept.origin })
