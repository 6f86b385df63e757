-- Records that are left.
use Rattle.std.proofs.Common.{◌≡◌, ℕ, Bool, true, false, IsTrue, List, [], ◌∷◌, map, Option, Some, None, refl, sym, subst, ◌∙◌}
use Rattle.std.specs.BTreeMap.Range.{IsLtBy}
use Rattle.std.proofs.lemmas.List.Elements.{All-head}
use Rattle.vec_base.specs.declared.shadow.ShadowKey.{ShadowKey}
use Rattle.shadow_records.specs.Keys.{key_cmp}
use Rattle.shadow_keeper.specs.Keeping.{IsAbove}
use Rattle.journal_keeper.specs.States.{Above}

above_first : (last : Option ShadowKey) (key : ShadowKey) (body : List ℕ) (rest : List (ShadowKey × List ℕ)) → Above last ((key, body) ∷ rest) → IsAbove last key
above_first None key body rest h = h
above_first (Some last) key body rest h = All-head (IsLtBy key_cmp last) key (map (λ e. e.0) rest) h

pub next_above : (last : Option ShadowKey) (left : List (ShadowKey × List ℕ)) (key : ShadowKey) (body : List ℕ) (rest : List (ShadowKey × List ℕ)) → left ≡ (key, body) ∷ rest → Above last left → IsAbove last key
next_above last left key body rest is h = above_first last key body rest (let P : List (ShadowKey × List ℕ) → Type 0 = λ l. Above last l in subst P is h)

some_left : (e : ShadowKey × List ℕ) (rest : List (ShadowKey × List ℕ)) → e ∷ rest ≡ [] → ⊥
some_left e rest is = cc

pub not_ended : (b : Bool) (left : List (ShadowKey × List ℕ)) (e : ShadowKey × List ℕ) (rest : List (ShadowKey × List ℕ)) → left ≡ e ∷ rest → (IsTrue b → left ≡ []) → b ≡ false
not_ended false left e rest is h = refl
not_ended true left e rest is h = absurd (some_left e rest (sym is ∙ h refl))
