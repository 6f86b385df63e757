-- What the calls of a keeper do, and what a stop leaves.
use Rattle.std.specs.Prelude.{◌≡◌, ◌⊎◌, ℕ, ◌≤◌, Bool, true, false, List, [], ◌∷◌, length, Option, Some, None, ⊤}
use Rattle.std.specs.declared.cmp.Ordering.TheVariants.{Less}
use Rattle.std.specs.FinMap.{from_entries}
use Rattle.std.specs.List.{AllByRecursion}
use Rattle.vec_base.specs.declared.shadow.Change.{Change}
use Rattle.vec_base.specs.declared.shadow.Change.TheVariants.{Put, Patch}
use Rattle.vec_base.specs.declared.shadow.ShadowKey.{ShadowKey}
use Rattle.shadow_records.specs.Keys.{Tables, key_cmp}
use Rattle.shadow_keeper.specs.declared.keeper.TheConstants.{MOST_CHANGE_BYTES}
use Rattle.shadow_keeper.specs.declared.keeper.Loaded.{Loaded}
use Rattle.shadow_keeper.specs.declared.keeper.Loaded.TheVariants as loaded
use Rattle.shadow_keeper.specs.declared.keeper.Kept.{Kept}
use Rattle.shadow_keeper.specs.declared.keeper.Kept.TheVariants as kept

-- ---- records and batches

-- the finite map of these records
abbrev pub tables_of : List (ShadowKey × List ℕ) → Tables
tables_of records = from_entries records

-- the change holds at most so many bytes
abbrev pub IsShort : Change → Type 0
IsShort (Put key bytes) = length bytes ≤ MOST_CHANGE_BYTES
IsShort (Patch key at bytes) = length bytes ≤ MOST_CHANGE_BYTES
IsShort _ = ⊤

abbrev pub AreShort : List Change → Type 0
AreShort changes = AllByRecursion IsShort changes

-- ---- answers

-- the key is above the one given last
abbrev pub IsAbove : Option ShadowKey → ShadowKey → Type 0
IsAbove None key = ⊤
IsAbove (Some last) key = key_cmp last key ≡ Less

-- the next record is the first of those not yet given; the end comes where none is left
abbrev pub GivesFirst : List (ShadowKey × List ℕ) → List (ShadowKey × List ℕ) → Loaded → Type 0
GivesFirst old new (loaded.One key body) = old ≡ (key, body) ∷ new
GivesFirst old new loaded.End = (old ≡ []) × (new ≡ [])
GivesFirst old new loaded.Failed = new ≡ old
GivesFirst old new loaded.Memory = new ≡ old

-- the key that is given is above the one given last
abbrev pub GivesKey : Option ShadowKey → Option ShadowKey → Loaded → Type 0
GivesKey old new (loaded.One key body) = IsAbove old key × (new ≡ Some key)
GivesKey old new loaded.End = new ≡ old
GivesKey old new loaded.Failed = new ≡ old
GivesKey old new loaded.Memory = new ≡ old

-- a record comes before the end was told, and the end stays
abbrev pub TellsEnd : Bool → Bool → Loaded → Type 0
TellsEnd old new (loaded.One key body) = (old ≡ false) × (new ≡ false)
TellsEnd old new loaded.End = new ≡ true
TellsEnd old new loaded.Failed = new ≡ old
TellsEnd old new loaded.Memory = new ≡ old

-- the tables are the ones that the batch makes, or those from before
abbrev pub Makes : Tables → Tables → Tables → Kept → Type 0
Makes old made new kept.Done = new ≡ made
Makes old made new kept.Failed = new ≡ old
Makes old made new kept.Memory = new ≡ old

-- ---- what a stop leaves: kept tables, or none where what is left can't be opened

-- what is left here may be left there
abbrev pub Within : (Option Tables → Type 0) → (Option Tables → Type 0) → Type 0
Within here there = (left : Option Tables) → here left → there left

-- what a stop leaves, as something tells it: now, and since a moment of its clock
pub record Stops (K : Type 0) : Type 1 where
  pub now : K → Option Tables → Type 0
  pub clock : K → ℕ
  pub since : K → ℕ → Option Tables → Type 0

abbrev pub stops : {K : Type 0} → (K → Option Tables → Type 0) → (K → ℕ) → (K → ℕ → Option Tables → Type 0) → Stops K
stops now clock since = record { now = now; clock = clock; since = since }

-- What a stop may have left since a moment before the call, up to its end: what it might have left up to its start, or tables that meet the test.
abbrev pub Adds : {K : Type 0} → Stops K → K → K → (Option Tables → Type 0) → Type 0
Adds S old new Meets = (moment : ℕ) (left : Option Tables) → moment ≤ S.clock old → S.since new moment left → S.since old moment left ⊎ Meets left

-- What a stop leaves after a batch that was not made: what it could leave before, or only the tables before the batch and with it.
abbrev pub LeftOpen : (Option Tables → Type 0) → Tables → Tables → (Option Tables → Type 0) → Type 0
LeftOpen before old made now = Within now before ⊎ Within now (λ left. (left ≡ Some old) ⊎ (left ≡ Some made))

-- what a stop leaves after a commit
abbrev pub LeftAfter : (Option Tables → Type 0) → Tables → Tables → (Option Tables → Type 0) → Kept → Type 0
LeftAfter before old made now kept.Done = Within now (λ left. left ≡ Some made)
LeftAfter before old made now kept.Failed = LeftOpen before old made now
LeftAfter before old made now kept.Memory = Within now before
