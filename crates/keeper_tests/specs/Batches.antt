-- The batches that the tests commit.
use Rattle.std.specs.Prelude.{ℕ, pos, List, [], ◌∷◌}
use Rattle.vec_base.specs.declared.shadow.Change.{Change}
use Rattle.vec_base.specs.declared.shadow.Change.TheVariants.{Put, Fill, Remove, Patch}
use Rattle.vec_base.specs.declared.shadow.ShadowKey.{ShadowKey}
use Rattle.shadow_records.specs.Keys.{key_of}

abbrev pub first_key : ShadowKey
first_key = key_of 1 4 (pos 1) (pos 0)

abbrev pub second_key : ShadowKey
second_key = key_of 1 4 (pos 2) (pos 0)

abbrev pub third_key : ShadowKey
third_key = key_of 1 4 (pos 3) (pos 0)

-- changes of each kind, over any tables
abbrev pub all_kinds : List Change
all_kinds = Put first_key (1 ∷ 2 ∷ 3 ∷ 4 ∷ []) ∷ Fill second_key 2 ∷ Patch first_key 1 (9 ∷ 8 ∷ []) ∷ Put third_key (7 ∷ []) ∷ Remove third_key ∷ []

-- three records
abbrev pub three_records : List (ShadowKey × List ℕ)
three_records = (first_key, 1 ∷ []) ∷ (second_key, 2 ∷ 3 ∷ []) ∷ (third_key, []) ∷ []

-- changes of the three records
abbrev pub later_changes : List Change
later_changes = Patch second_key 0 (5 ∷ []) ∷ Remove first_key ∷ []
