-- What changes make of kept records, one after another.
use Rattle.std.specs.Prelude.{ℕ, ◌+◌, ◌≤◌, List, [], ◌∷◌, ◌++◌, length, take, drop, replicate, Option, Some, None, IsSome, ⊤}
use Rattle.std.specs.FinMap.{get, insert, remove}
use Rattle.vec_base.specs.declared.shadow.Change.{Change}
use Rattle.vec_base.specs.declared.shadow.Change.TheVariants.{Put, Fill, Remove, Patch}
use Rattle.vec_base.specs.declared.shadow.ShadowKey.{ShadowKey}
use Rattle.shadow_records.specs.Keys.{Tables}

-- the body with other bytes from a place on
abbrev pub patched : List ℕ → ℕ → List ℕ → List ℕ
patched body at bytes = take at body ++ bytes ++ drop (at + length bytes) body

abbrev pub patched_in : Tables → ShadowKey → ℕ → List ℕ → Option (List ℕ) → Tables
patched_in tables key at bytes None = tables
patched_in tables key at bytes (Some body) = insert tables key (patched body at bytes)

-- the records after one change
abbrev pub changed : Change → Tables → Tables
changed (Put key bytes) tables = insert tables key bytes
changed (Fill key count) tables = insert tables key (replicate count 0)
changed (Remove key) tables = remove tables key
changed (Patch key at bytes) tables = patched_in tables key at bytes (get tables key)

-- the bytes lie inside a body that is there
abbrev pub LiesIn : ℕ → List ℕ → Option (List ℕ) → Type 0
LiesIn at bytes None = ⊥
LiesIn at bytes (Some body) = at + length bytes ≤ length body

-- the change can be made: what goes or is patched is there
abbrev pub Applies : Change → Tables → Type 0
Applies (Put key bytes) tables = ⊤
Applies (Fill key count) tables = ⊤
Applies (Remove key) tables = IsSome (get tables key)
Applies (Patch key at bytes) tables = LiesIn at bytes (get tables key)

-- the records after all changes of a batch
abbrev pub applied : List Change → Tables → Tables
applied [] tables = tables
applied (c ∷ cs) tables = applied cs (changed c tables)

-- each change of a batch can be made where its turn comes
abbrev pub AllApply : List Change → Tables → Type 0
AllApply [] tables = ⊤
AllApply (c ∷ cs) tables = Applies c tables × AllApply cs (changed c tables)
