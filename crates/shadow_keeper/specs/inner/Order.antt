-- The order in which records are given, and the count of faults.
use Rattle.std.specs.Prelude.{ℕ, Bool, true, false, ◌&&◌, if◌then◌else◌, List, [], ◌∷◌, Option, Some, None}
use Rattle.std.specs.FinMap.{is_sorted}
use Rattle.std.specs.FinMap.Entries.{below_all}
use Rattle.vec_base.specs.Counts.{raised}
use Rattle.vec_base.specs.declared.shadow.ShadowKey.{ShadowKey}
use Rattle.shadow_records.specs.Keys.{key_cmp}

abbrev pub are_above : Option ShadowKey → List (ShadowKey × List ℕ) → Bool
are_above None left = true
are_above (Some last) left = below_all key_cmp last left

-- none is left where the end was told
abbrev pub is_end : Bool → List (ShadowKey × List ℕ) → Bool
is_end true [] = true
is_end true (entry ∷ entries) = false
is_end false left = true

-- the records that are left rise, above the key given last
abbrev pub is_in_order : Option ShadowKey → Bool → List (ShadowKey × List ℕ) → Bool
is_in_order last ended left = are_above last left && (is_sorted key_cmp left && is_end ended left)

-- a count of faults after a call
abbrev pub faults_after : Bool → ℕ → ℕ
faults_after fails count = if fails then raised count else count
