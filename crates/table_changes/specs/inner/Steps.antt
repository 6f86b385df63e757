-- What changes make of the bodies of keys, step by step.
use Rattle.std.specs.Prelude.{◌≡◌, ℕ, Bool, true, false, List, Option}
use Rattle.vec_base.specs.declared.shadow.Change.{Change}
use Rattle.vec_base.specs.declared.shadow.ShadowKey.{ShadowKey}
use Rattle.shadow_keeper.specs.Keeping.{AreShort}
use Rattle.shadow_records.specs.Keys.{is_key}
use Rattle.shadow_records.specs.PlacedTables.{PlacedTable}
use Rattle.shadow_records.specs.StandsFor.{record_in}
use Rattle.shadow_records.specs.inner.OneKey.{applied_at, AllApplyAt}

-- with the changes the body of the key becomes another one
pub record Gives (changes : List Change) (key : ShadowKey) (before after : Option (List ℕ)) : Type 0 where
  pub applies : AllApplyAt changes key before
  pub body : applied_at changes key before ≡ after

-- What came behind the old changes makes the older bodies of these keys the newer ones, and changes no other key.
pub record Rewrites (keys : ShadowKey → Bool) (older newer : ShadowKey → Option (List ℕ)) (old new : List Change) : Type 0 where
  pub these : (key : ShadowKey) (first : Option (List ℕ)) → keys key ≡ true → Gives old key first (older key) → Gives new key first (newer key)
  pub others : (key : ShadowKey) (first last : Option (List ℕ)) → keys key ≡ false → Gives old key first last → Gives new key first last
  pub short : AreShort old → AreShort new

-- the same of one key
abbrev pub RewritesOne : ShadowKey → Option (List ℕ) → Option (List ℕ) → List Change → List Change → Type 0
RewritesOne key before after old new = Rewrites (λ k. is_key k key) (λ k. before) (λ k. after) old new

-- the same of keys of two tables
abbrev pub TurnsKeys : (ShadowKey → Bool) → Option PlacedTable → Option PlacedTable → List Change → List Change → Type 0
TurnsKeys keys older newer old new = Rewrites keys (record_in older) (record_in newer) old new
