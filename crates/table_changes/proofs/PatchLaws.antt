-- Patches of some cells, one after another.
use Rattle.std.proofs.Common.{◌≡◌, ℕ, ◌+◌, ◌*◌, ◌<◌, ◌≤◌, ◌==◌, List, [], ◌∷◌, ◌++◌, length, take, get_or, cond, Bool, true, false, ◌||◌, Option, Some, refl, sym, ap, ◌∙◌, subst, replicate}
use Rattle.std.proofs.lemmas.List.{take_more, take_all}
use Rattle.std.proofs.lemmas.Bool.{eq-eqb, ne_eqb, eqb-true}
use Rattle.vec_base.specs.declared.shadow.Change.{Change}
use Rattle.vec_base.specs.declared.shadow.Change.TheVariants.{Fill, Patch}
use Rattle.vec_base.specs.declared.shadow.ShadowKey.{ShadowKey}
use Rattle.vec_base.specs.Forms.{is_listed}
use Rattle.shadow_keeper.specs.declared.keeper.TheConstants.{MOST_CHANGE_BYTES}
use Rattle.shadow_records.specs.Batches.{patched}
use Rattle.shadow_records.specs.Cells.{laid}
use Rattle.table_changes.specs.inner.Steps.{RewritesOne}
use Rattle.table_changes.proofs.LaidLaws.{cell_set, laid-patch, laid-room, laid-same, zeros}
use Rattle.table_changes.proofs.Steps.{one_fill, one_patch, rewrites-twice}
use Rattle.shadow_records.specs.Keys.{is_key}

-- the cells of the listed places are the newer ones
abbrev pub written : (ℕ → List ℕ) → (ℕ → List ℕ) → List ℕ → ℕ → List ℕ
written older newer places k = cond (is_listed places k) (newer k) (older k)

listed-more : (places : List ℕ) (i k : ℕ) → is_listed (places ++ i ∷ []) k ≡ (is_listed places k || (i == k))
listed-more [] i k = none (i == k) where
  none : (b : Bool) → (b || false) ≡ (false || b)
  none true = refl
  none false = refl
listed-more (p ∷ places) i k = by (p == k) (listed-more places i k) where
  by : (b : Bool) → is_listed (places ++ i ∷ []) k ≡ (is_listed places k || (i == k)) → (b || is_listed (places ++ i ∷ []) k) ≡ ((b || is_listed places k) || (i == k))
  by true e = refl
  by false e = e

written-more : (older newer : ℕ → List ℕ) (places : List ℕ) (i k : ℕ) → cell_set (written older newer places) i (newer i) k ≡ written older newer (places ++ i ∷ []) k
written-more older newer places i k = own (k == i) refl ∙ ap (λ b. cond b (newer k) (older k)) (sym (listed-more places i k)) where
  pick : (b c : Bool) → c ≡ false → cond b (newer k) (older k) ≡ cond (b || c) (newer k) (older k)
  pick true c e = refl
  pick false c e = ap (λ d. cond d (newer k) (older k)) (sym e)

  all : (b c : Bool) → c ≡ true → newer k ≡ cond (b || c) (newer k) (older k)
  all true c e = refl
  all false c e = ap (λ d. cond d (newer k) (older k)) (sym e)

  turn : (b : Bool) → (k == i) ≡ b → (i == k) ≡ b
  turn true e = eq-eqb i k (sym (eqb-true k i e))
  turn false e = ne_eqb i k (λ same. absurd (both (k == i) (eq-eqb k i (sym same)) e)) where
    both : (b : Bool) → b ≡ true → b ≡ false → ⊥
    both b t f = absurd cc

  own : (b : Bool) → (k == i) ≡ b → cond (k == i) (newer i) (written older newer places k) ≡ cond (is_listed places k || (i == k)) (newer k) (older k)
  own true e = ap (λ b. cond b (newer i) (written older newer places k)) e ∙ ap newer (sym (eqb-true k i e)) ∙ all (is_listed places k) (i == k) (turn true e)
  own false e = ap (λ b. cond b (newer i) (written older newer places k)) e ∙ pick (is_listed places k) (i == k) (turn false e)

module _ (key : ShadowKey) (width count : ℕ) (older newer : ℕ → List ℕ) (older_wide : (k : ℕ) → length (older k) ≡ width) (newer_wide : (k : ℕ) → length (newer k) ≡ width) (few : width ≤ MOST_CHANGE_BYTES) where
  written-wide : (places : List ℕ) (k : ℕ) → length (written older newer places k) ≡ width
  written-wide places k = by (is_listed places k) where
    by : (b : Bool) → length (cond b (newer k) (older k)) ≡ width
    by true = newer_wide k
    by false = older_wide k

  patched-more : (places : List ℕ) (i : ℕ) (old mid : List Change) → i < count
      → RewritesOne key (Some (laid older count)) (Some (laid (written older newer places) count)) old mid
      → RewritesOne key (Some (laid older count)) (Some (laid (written older newer (places ++ i ∷ [])) count)) old (mid ++ Patch key (i * width) (newer i) ∷ [])
  patched-more places i old mid less done =
      let now = written older newer places in
      let next = written older newer (places ++ i ∷ []) in
      let made : patched (laid now count) (i * width) (newer i) ≡ laid next count = laid-patch now width count i (newer i) (written-wide places) (newer_wide i) less ∙ laid-same (cell_set now i (newer i)) next count (λ k below. written-more older newer places i k) in
      let lies = laid-room now width count i (newer i) (written-wide places) (newer_wide i) less in
      let short : length (newer i) ≤ MOST_CHANGE_BYTES = subst (λ (l : ℕ). l ≤ MOST_CHANGE_BYTES) (sym (newer_wide i)) few in
      let one = one_patch key (i * width) (newer i) (laid now count) mid lies short in
      let P : List ℕ → Type 0 = λ body. RewritesOne key (Some (laid now count)) (Some body) mid (mid ++ Patch key (i * width) (newer i) ∷ []) in
      rewrites-twice (λ k. is_key k key) (λ k. Some (laid older count)) (λ k. Some (laid now count)) (λ k. Some (laid next count)) old mid (mid ++ Patch key (i * width) (newer i) ∷ [])
      done (subst P made one)

  -- one patch more
  pub patch_more : (units : List ℕ) (i u : ℕ) (old mid new : List Change) (bytes : List ℕ) → i < length units → u ≡ get_or units i u → u < count → bytes ≡ newer u
      → RewritesOne key (Some (laid older count)) (Some (laid (written older newer (take i units)) count)) old mid
      → new ≡ mid ++ Patch key (u * width) bytes ∷ []
      → RewritesOne key (Some (laid older count)) (Some (laid (written older newer (take (i + 1) units)) count)) old new
  patch_more units i u old mid new bytes within at less is done made =
      let P : List Change → Type 0 = λ cs. RewritesOne key (Some (laid older count)) (Some (laid (written older newer (take (i + 1) units)) count)) old cs in
      let Q : List ℕ → Type 0 = λ places. RewritesOne key (Some (laid older count)) (Some (laid (written older newer places) count)) old (mid ++ Patch key (u * width) (newer u) ∷ []) in
      let places : take i units ++ u ∷ [] ≡ take (i + 1) units = ap (λ v. take i units ++ v ∷ []) at ∙ sym (take_more units i u within) in
      subst P (sym (made ∙ ap (λ b. mid ++ Patch key (u * width) b ∷ []) is)) (subst Q places (patched-more (take i units) u old mid less done))

  -- no patch yet
  pub patch_none : (old : List Change) → RewritesOne key (Some (laid older count)) (Some (laid (written older newer []) count)) old old
  patch_none old = record { these = λ k first e given. given; others = λ k first last e given. given; short = λ short. short }

  -- all that differ are patched
  pub patch_all : (units : List ℕ) (n : ℕ) (old new : List Change) → length units ≤ n → ((k : ℕ) → k < count → is_listed units k ≡ false → older k ≡ newer k)
      → RewritesOne key (Some (laid older count)) (Some (laid (written older newer (take n units)) count)) old new
      → RewritesOne key (Some (laid older count)) (Some (laid newer count)) old new
  patch_all units n old new end same done =
      let P : List ℕ → Type 0 = λ body. RewritesOne key (Some (laid older count)) (Some body) old new in
      subst P (laid-same (written older newer (take n units)) newer count (λ k less. ap (λ us. written older newer us k) (take_all n units end) ∙ by k less (is_listed units k) refl)) done
    where
      by : (k : ℕ) → k < count → (b : Bool) → is_listed units k ≡ b → written older newer units k ≡ newer k
      by k less true e = ap (λ b. cond b (newer k) (older k)) e
      by k less false e = ap (λ b. cond b (newer k) (older k)) e ∙ same k less e

-- a record of zeros where there was none
pub filled : (key : ShadowKey) (width count : ℕ) (older : ℕ → List ℕ) (before : Option (List ℕ)) (old : List Change) → ((k : ℕ) → older k ≡ replicate width 0)
    → RewritesOne key before (Some (laid older count)) old (old ++ Fill key (count * width) ∷ [])
filled key width count older before old none =
    let P : List ℕ → Type 0 = λ body. RewritesOne key before (Some body) old (old ++ Fill key (count * width) ∷ []) in
    subst P (zeros count width ∙ laid-same (λ k. replicate width 0) older count (λ k less. sym (none k))) (one_fill key (count * width) before old)
