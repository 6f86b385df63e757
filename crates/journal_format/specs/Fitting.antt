-- The test whether changes apply: it is true exactly where `AllApply` holds.
use Rattle.std.specs.Prelude.{ℕ, ◌+◌, Bool, true, false, ◌&&◌, nat_le, List, [], ◌∷◌, length, Option, Some, None, is_some}
use Rattle.std.specs.FinMap.{get}
use Rattle.vec_base.specs.declared.shadow.Change.{Change}
use Rattle.vec_base.specs.declared.shadow.Change.TheVariants.{Put, Fill, Remove, Patch}
use Rattle.shadow_records.specs.Batches.{changed}
use Rattle.shadow_records.specs.Keys.{Tables}

-- so many bytes from a place on lie inside a body that is there
abbrev pub lies_in : ℕ → ℕ → Option (List ℕ) → Bool
lies_in at count None = false
lies_in at count (Some body) = nat_le (at + count) (length body)

-- what goes or is patched is there
abbrev pub applies : Change → Tables → Bool
applies (Put key bytes) tables = true
applies (Fill key count) tables = true
applies (Remove key) tables = is_some (get tables key)
applies (Patch key at bytes) tables = lies_in at (length bytes) (get tables key)

abbrev pub all_apply : List Change → Tables → Bool
all_apply [] tables = true
all_apply (c ∷ cs) tables = applies c tables && all_apply cs (changed c tables)
