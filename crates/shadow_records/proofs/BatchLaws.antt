-- A batch followed at one key: its body behind all changes, and that all changes can be made where they can at each key.
use Rattle.std.proofs.Common.{◌≡◌, ℕ, List, [], ◌∷◌, ◌++◌, cond, Bool, true, false, Option, Some, None, refl, sym, ap, ◌∙◌, subst, replicate}
use Rattle.std.specs.FinMap.{get, get-insert, get-remove}
use Rattle.vec_base.specs.declared.shadow.Change.{Change}
use Rattle.vec_base.specs.declared.shadow.Change.TheVariants.{Put, Fill, Remove, Patch}
use Rattle.vec_base.specs.declared.shadow.ShadowKey.{ShadowKey}
use Rattle.shadow_records.specs.Batches.{patched, patched_in, changed, applied, Applies, AllApply}
use Rattle.shadow_records.specs.inner.OneKey.{patched_body, changed_at, applied_at, AppliesAt, AllApplyAt}
use Rattle.shadow_records.specs.Keys.{Tables, is_key}
use Rattle.shadow_records.proofs.KeyLaws.{key_total, key_is}

get-patched : (tables : Tables) (key at : ShadowKey) (from : ℕ) (bytes : List ℕ) (body : Option (List ℕ)) → get tables key ≡ body → get (patched_in tables key from bytes body) at ≡ cond (is_key at key) (patched_body from bytes body) (get tables at)
get-patched tables key at from bytes None e = none (is_key at key) refl where
  none : (b : Bool) → is_key at key ≡ b → get tables at ≡ cond b None (get tables at)
  none true w = ap (get tables) (key_is at key w) ∙ e
  none false w = refl
get-patched tables key at from bytes (Some body) e = get-insert key_total tables key (patched body from bytes) at

pub get-changed : (c : Change) (tables : Tables) (at : ShadowKey) → get (changed c tables) at ≡ changed_at c at (get tables at)
get-changed (Put key bytes) tables at = get-insert key_total tables key bytes at
get-changed (Fill key count) tables at = get-insert key_total tables key (replicate count 0) at
get-changed (Remove key) tables at = get-remove key_total tables key at
get-changed (Patch key from bytes) tables at = get-patched tables key at from bytes (get tables key) refl ∙ same (is_key at key) refl where
  same : (b : Bool) → is_key at key ≡ b → cond b (patched_body from bytes (get tables key)) (get tables at) ≡ cond b (patched_body from bytes (get tables at)) (get tables at)
  same true w = ap (λ k. patched_body from bytes (get tables k)) (sym (key_is at key w))
  same false w = refl

pub get-applied : (cs : List Change) (tables : Tables) (at : ShadowKey) → get (applied cs tables) at ≡ applied_at cs at (get tables at)
get-applied [] tables at = refl
get-applied (c ∷ cs) tables at = get-applied cs (changed c tables) at ∙ ap (applied_at cs at) (get-changed c tables at)

one_applies : (c : Change) (tables : Tables) → ((at : ShadowKey) → AppliesAt c at (get tables at)) → Applies c tables
one_applies (Put key bytes) tables applies = tt
one_applies (Fill key count) tables applies = tt
one_applies (Remove key) tables applies = applies key refl
one_applies (Patch key from bytes) tables applies = applies key refl

-- what can be made at each key can be made
pub all_apply : (cs : List Change) (tables : Tables) → ((at : ShadowKey) → AllApplyAt cs at (get tables at)) → AllApply cs tables
all_apply [] tables applies = tt
all_apply (c ∷ cs) tables applies = (one_applies c tables (λ at. (applies at).0), all_apply cs (changed c tables) (λ at. let P : Option (List ℕ) → Type 0 = λ body. AllApplyAt cs at body in subst P (sym (get-changed c tables at)) (applies at).1))

pub applied_at-append : (cs ds : List Change) (at : ShadowKey) (body : Option (List ℕ)) → applied_at (cs ++ ds) at body ≡ applied_at ds at (applied_at cs at body)
applied_at-append [] ds at body = refl
applied_at-append (c ∷ cs) ds at body = applied_at-append cs ds at (changed_at c at body)

pub all_apply_at-append : (cs ds : List Change) (at : ShadowKey) (body : Option (List ℕ)) → AllApplyAt cs at body → AllApplyAt ds at (applied_at cs at body) → AllApplyAt (cs ++ ds) at body
all_apply_at-append [] ds at body a b = b
all_apply_at-append (c ∷ cs) ds at body a b = (a.0, all_apply_at-append cs ds at (changed_at c at body) a.1 b)
