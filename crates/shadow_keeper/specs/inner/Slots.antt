-- Slots of records: a key with its body, or a key that is held ready and has none.
use Rattle.std.specs.Prelude.{ℕ, List, [], ◌∷◌, Option, Some, None, IsSome}
use Rattle.std.specs.BTreeMap.{is_at}
use Rattle.std.specs.FinMap.{insert, remove}
use Rattle.std.specs.List.{AllByRecursion}
use Rattle.std.specs.Map.{lookup}
use Rattle.vec_base.specs.declared.shadow.ShadowKey.{ShadowKey}
use Rattle.shadow_records.specs.Keys.{Tables, key_cmp, no_records}
use Rattle.shadow_keeper.specs.declared.edit.Edit.{Edit}
use Rattle.shadow_keeper.specs.inner.Edits.{key_of_edit}

abbrev pub with_slot : ShadowKey → Option (List ℕ) → Tables → Tables
with_slot key None tables = remove tables key
with_slot key (Some body) tables = insert tables key body

-- the records that have bodies
abbrev pub tables_in : List (ShadowKey × Option (List ℕ)) → Tables
tables_in [] = no_records
tables_in (slot ∷ slots) = with_slot slot.0 slot.1 (tables_in slots)

-- the slot of a key
abbrev pub slot_of : List (ShadowKey × Option (List ℕ)) → ShadowKey → Option (Option (List ℕ))
slot_of slots key = lookup (is_at (key_cmp key)) slots

abbrev pub IsHeld : List (ShadowKey × Option (List ℕ)) → ShadowKey → Type 0
IsHeld slots key = IsSome (slot_of slots key)

abbrev pub AllHeld : List (ShadowKey × Option (List ℕ)) → List Edit → Type 0
AllHeld slots edits = AllByRecursion (λ edit. IsHeld slots (key_of_edit edit)) edits

-- no slot goes
abbrev pub KeepsSlots : List (ShadowKey × Option (List ℕ)) → List (ShadowKey × Option (List ℕ)) → Type 0
KeepsSlots old new = (key : ShadowKey) → IsHeld old key → IsHeld new key

-- the records that have bodies, one after another
abbrev pub with_record : ShadowKey → Option (List ℕ) → List (ShadowKey × List ℕ) → List (ShadowKey × List ℕ)
with_record key None records = records
with_record key (Some body) records = (key, body) ∷ records

abbrev pub records_in : List (ShadowKey × Option (List ℕ)) → List (ShadowKey × List ℕ)
records_in [] = []
records_in (slot ∷ slots) = with_record slot.0 slot.1 (records_in slots)
