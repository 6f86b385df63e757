-- The records of a keeper, one after another.
use Rattle.std.specs.Prelude.{◌≡◌, ℕ, Bool, true, IsTrue, List, [], ◌∷◌, ◌++◌, Option}
use Rattle.std.specs.FinMap.{is_sorted}
use Rattle.vec_base.specs.declared.shadow.ShadowKey.{ShadowKey}
use Rattle.shadow_keeper.specs.Keeping.{IsAbove}
use Rattle.shadow_records.specs.Keys.{key_cmp}
use Rattle.txn_commits.specs.Keeping.{Meanings}
use Rattle.txn_core.specs.Loads.{Loads}

-- a record with a key above the last one may stand behind the others
abbrev pub MayFollow : Option ShadowKey → List (ShadowKey × List ℕ) → Type 0
MayFollow last records = (key : ShadowKey) (body : List ℕ) → IsAbove last key → is_sorted key_cmp (records ++ (key, body) ∷ []) ≡ true

-- These are the records that were given since the beginning, where the keeper tells them.
pub record Reads {K : Type 0} (M : Meanings K) (left : K → List (ShadowKey × List ℕ)) (last : K → Option ShadowKey) (old : K) (records : List (ShadowKey × List ℕ)) (new : K) : Type 0 where
  pub loads : Loads M old new
  pub sorted : is_sorted key_cmp records ≡ true
  pub follows : MayFollow (last new) records
  pub splits : IsTrue (M.tells old) → left old ≡ records ++ left new
