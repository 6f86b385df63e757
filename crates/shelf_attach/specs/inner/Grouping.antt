-- Records with rising keys, one table number after another.
use Rattle.std.specs.Prelude.{◌≡◌, ℕ, ◌<◌, List, [], ◌∷◌, ⊤}
use Rattle.std.specs.List.{AllByRecursion}
use Rattle.table_attach.specs.Attaching.{Records}
use Rattle.vec_base.specs.declared.shadow.ShadowKey.{ShadowKey}

-- the table number of each record meets the test
abbrev pub AllUnder : (ℕ → Type 0) → Records → Type 0
AllUnder Meets records = AllByRecursion (λ (r : ShadowKey × List ℕ). Meets r.0.table) records

-- the first record, where there is one, has another table number
abbrev pub BeginsElsewhere : ℕ → Records → Type 0
BeginsElsewhere number [] = ⊤
BeginsElsewhere number (r ∷ rest) = r.0.table ≡ number → ⊥

-- the first record has a table number above those of the others
abbrev pub IsBefore : Records → Records → Type 0
IsBefore front [] = ⊤
IsBefore front (r ∷ rest) = AllUnder (λ number. number < r.0.table) front
