-- What changes make of the body of one key.
use Rattle.std.specs.Prelude.{◌≡◌, ℕ, cond, List, [], ◌∷◌, replicate, Option, Some, None, IsSome, ⊤}
use Rattle.vec_base.specs.declared.shadow.Change.{Change}
use Rattle.vec_base.specs.declared.shadow.Change.TheVariants.{Put, Fill, Remove, Patch}
use Rattle.vec_base.specs.declared.shadow.ShadowKey.{ShadowKey}
use Rattle.shadow_records.specs.Batches.{patched, LiesIn}
use Rattle.shadow_records.specs.Keys.{is_key}

abbrev pub patched_body : ℕ → List ℕ → Option (List ℕ) → Option (List ℕ)
patched_body at bytes None = None
patched_body at bytes (Some body) = Some (patched body at bytes)

abbrev pub changed_at : Change → ShadowKey → Option (List ℕ) → Option (List ℕ)
changed_at (Put key bytes) at body = cond (is_key at key) (Some bytes) body
changed_at (Fill key count) at body = cond (is_key at key) (Some (replicate count 0)) body
changed_at (Remove key) at body = cond (is_key at key) None body
changed_at (Patch key from bytes) at body = cond (is_key at key) (patched_body from bytes body) body

abbrev pub AppliesAt : Change → ShadowKey → Option (List ℕ) → Type 0
AppliesAt (Put key bytes) at body = ⊤
AppliesAt (Fill key count) at body = ⊤
AppliesAt (Remove key) at body = (at ≡ key) → IsSome body
AppliesAt (Patch key from bytes) at body = (at ≡ key) → LiesIn from bytes body

abbrev pub applied_at : List Change → ShadowKey → Option (List ℕ) → Option (List ℕ)
applied_at [] at body = body
applied_at (c ∷ cs) at body = applied_at cs at (changed_at c at body)

abbrev pub AllApplyAt : List Change → ShadowKey → Option (List ℕ) → Type 0
AllApplyAt [] at body = ⊤
AllApplyAt (c ∷ cs) at body = AppliesAt c at body × AllApplyAt cs at (changed_at c at body)
