-- What changes make of the bodies of keys, step by step.
use Rattle.std.proofs.Common.{◌≡◌, ℕ, ◌+◌, ◌≤◌, List, [], ◌∷◌, ◌++◌, length, replicate, cond, Bool, true, false, Option, Some, None, refl, sym, ap, ◌∙◌, subst}
use Rattle.std.specs.Prelude.{IsSome}
use Rattle.std.proofs.lemmas.Bool.{false≢true}
use Rattle.vec_base.specs.declared.shadow.Change.{Change}
use Rattle.vec_base.specs.declared.shadow.Change.TheVariants.{Put, Fill, Remove, Patch}
use Rattle.vec_base.specs.declared.shadow.ShadowKey.{ShadowKey}
use Rattle.shadow_keeper.specs.Keeping.{AreShort, IsShort}
use Rattle.shadow_keeper.specs.declared.keeper.TheConstants.{MOST_CHANGE_BYTES}
use Rattle.shadow_records.specs.Batches.{patched}
use Rattle.shadow_records.specs.Keys.{is_key}
use Rattle.shadow_records.specs.inner.OneKey.{applied_at, AppliesAt, changed_at, patched_body}
use Rattle.shadow_records.proofs.BatchLaws.{applied_at-append, all_apply_at-append}
use Rattle.shadow_records.proofs.KeyLaws.{key_is, is_key-same}
use Rattle.table_changes.specs.inner.Steps.{Gives, Rewrites, RewritesOne}

-- ---- steps behind each other

never : {A : Type 0} (b : Bool) → b ≡ true → b ≡ false → A
never b t f = absurd (false≢true (sym f ∙ t))

given_as : (changes : List Change) (key : ShadowKey) (first a b : Option (List ℕ)) → a ≡ b → Gives changes key first a → Gives changes key first b
given_as changes key first a b same given = record { applies = given.applies; body = given.body ∙ same }

pub rewrites-none : (older newer : ShadowKey → Option (List ℕ)) (old : List Change) → Rewrites (λ key. false) older newer old old
rewrites-none older newer old = record { these = λ key first is given. never false is refl; others = λ key first last is given. given; short = λ short. short }

-- nothing has to be done where the bodies are the same
pub rewrites-same : (keys : ShadowKey → Bool) (older newer : ShadowKey → Option (List ℕ)) (old : List Change) → ((key : ShadowKey) → keys key ≡ true → older key ≡ newer key) → Rewrites keys older newer old old
rewrites-same keys older newer old same = record {
  these = λ key first is given. given_as old key first (older key) (newer key) (same key is) given;
  others = λ key first last is given. given;
  short = λ short. short;
}

-- two steps over different keys make one over keys of which all others have the same bodies
pub rewrites-then : (keys more all : ShadowKey → Bool) (older newer : ShadowKey → Option (List ℕ)) (old mid new : List Change)
    → Rewrites keys older newer old mid → Rewrites more older newer mid new
    → ((key : ShadowKey) → more key ≡ true → keys key ≡ false)
    → ((key : ShadowKey) → keys key ≡ true → all key ≡ true) → ((key : ShadowKey) → more key ≡ true → all key ≡ true)
    → ((key : ShadowKey) → all key ≡ true → keys key ≡ false → more key ≡ false → older key ≡ newer key)
    → Rewrites all older newer old new
rewrites-then keys more all older newer old mid new one two apart first_in more_in same = record {
  these = λ key first is given. here key first is given (keys key) refl (more key) refl;
  others = λ key first last is given. two.others key first last (out more key is (more_in key) (more key) refl) (one.others key first last (out keys key is (first_in key) (keys key) refl) given);
  short = λ short. two.short (one.short short);
}
  where
    out : (set : ShadowKey → Bool) (key : ShadowKey) → all key ≡ false → (set key ≡ true → all key ≡ true) → (b : Bool) → set key ≡ b → set key ≡ false
    out set key is within true e = never (all key) (within e) is
    out set key is within false e = e

    here : (key : ShadowKey) (first : Option (List ℕ)) → all key ≡ true → Gives old key first (older key) → (b : Bool) → keys key ≡ b → (c : Bool) → more key ≡ c → Gives new key first (newer key)
    here key first is given true e true f = never (keys key) e (apart key f)
    here key first is given true e false f = two.others key first (newer key) f (one.these key first e given)
    here key first is given false e true f = two.these key first f (one.others key first (older key) e given)
    here key first is given false e false f = given_as new key first (older key) (newer key) (same key is e f) (two.others key first (older key) f (one.others key first (older key) e given))

-- more keys, of which all others have the same bodies
pub rewrites-wider : (keys all : ShadowKey → Bool) (older newer : ShadowKey → Option (List ℕ)) (old new : List Change) → Rewrites keys older newer old new
    → ((key : ShadowKey) → keys key ≡ true → all key ≡ true)
    → ((key : ShadowKey) → all key ≡ true → keys key ≡ false → older key ≡ newer key)
    → Rewrites all older newer old new
rewrites-wider keys all older newer old new one first_in same =
    rewrites-then keys (λ key. false) all older newer old new new one (rewrites-none older newer new)
    (λ key is. never false is refl) first_in (λ key is. never false is refl) (λ key is out none. same key is out)

-- two steps over the same keys
pub rewrites-twice : (keys : ShadowKey → Bool) (first second third : ShadowKey → Option (List ℕ)) (old mid new : List Change)
    → Rewrites keys first second old mid → Rewrites keys second third mid new → Rewrites keys first third old new
rewrites-twice keys first second third old mid new one two = record {
  these = λ key start is given. two.these key start is (one.these key start is given);
  others = λ key start last is given. two.others key start last is (one.others key start last is given);
  short = λ short. two.short (one.short short);
}

-- one key of two tables
pub rewrites-one : (key : ShadowKey) (older newer : ShadowKey → Option (List ℕ)) (before after : Option (List ℕ)) (old new : List Change)
    → before ≡ older key → after ≡ newer key → RewritesOne key before after old new → Rewrites (λ k. is_key k key) older newer old new
rewrites-one key older newer before after old new was is one = record {
  these = λ k first e given.
      given_as new k first after (newer k) (is ∙ ap newer (sym (key_is k key e)))
      (one.these k first e (given_as old k first (older k) before (ap older (key_is k key e) ∙ sym was) given));
  others = one.others;
  short = one.short;
}

-- ---- one change

abbrev pub key_in : Change → ShadowKey
key_in (Put key bytes) = key
key_in (Fill key count) = key
key_in (Remove key) = key
key_in (Patch key at bytes) = key

other_key : (c : Change) (k : ShadowKey) (body : Option (List ℕ)) → is_key k (key_in c) ≡ false → AppliesAt c k body × (changed_at c k body ≡ body)
other_key (Put key bytes) k body e = (tt, ap (λ b. cond b (Some bytes) body) e)
other_key (Fill key count) k body e = (tt, ap (λ b. cond b (Some (replicate count 0)) body) e)
other_key (Remove key) k body e = ((λ same. never (is_key k key) (ap (λ j. is_key j key) same ∙ is_key-same key) e), ap (λ b. cond b None body) e)
other_key (Patch key at bytes) k body e = ((λ same. never (is_key k key) (ap (λ j. is_key j key) same ∙ is_key-same key) e), ap (λ b. cond b (patched_body at bytes body) body) e)

short_more : (changes : List Change) (c : Change) → IsShort c → AreShort changes → AreShort (changes ++ c ∷ [])
short_more [] c short all = (short, tt)
short_more (first ∷ changes) c short all = (all.0, short_more changes c short all.1)

pub one_change : (c : Change) (before after : Option (List ℕ)) (old : List Change) → AppliesAt c (key_in c) before → changed_at c (key_in c) before ≡ after → IsShort c → RewritesOne (key_in c) before after old (old ++ c ∷ [])
one_change c before after old applies changed short = record {
  these = λ k first e given. here k first (key_is k (key_in c) e) given;
  others = λ k first last e given. (let other = other_key c k (applied_at old k first) e in record {
    applies = all_apply_at-append old (c ∷ []) k first given.applies (other.0, tt);
    body = applied_at-append old (c ∷ []) k first ∙ other.1 ∙ given.body;
  });
  short = short_more old c short;
}
  where
    here : (k : ShadowKey) (first : Option (List ℕ)) → k ≡ key_in c → Gives old k first before → Gives (old ++ c ∷ []) k first after
    here k first same given = record {
      applies = all_apply_at-append old (c ∷ []) k first given.applies ((let P : Option (List ℕ) → Type 0 = λ body. AppliesAt c k body in let Q : ShadowKey → Type 0 = λ j. AppliesAt c j before in subst P (sym given.body) (subst Q (sym same) applies)), tt);
      body = applied_at-append old (c ∷ []) k first ∙ ap (changed_at c k) given.body ∙ ap (λ j. changed_at c j before) same ∙ changed;
    }

at_own : (key : ShadowKey) (x y : Option (List ℕ)) → cond (is_key key key) x y ≡ x
at_own key x y = ap (λ b. cond b x y) (is_key-same key)

pub one_put : (key : ShadowKey) (bytes : List ℕ) (before : Option (List ℕ)) (old : List Change) → length bytes ≤ MOST_CHANGE_BYTES → RewritesOne key before (Some bytes) old (old ++ Put key bytes ∷ [])
one_put key bytes before old short = one_change (Put key bytes) before (Some bytes) old tt (at_own key (Some bytes) before) short

pub one_fill : (key : ShadowKey) (count : ℕ) (before : Option (List ℕ)) (old : List Change) → RewritesOne key before (Some (replicate count 0)) old (old ++ Fill key count ∷ [])
one_fill key count before old = one_change (Fill key count) before (Some (replicate count 0)) old tt (at_own key (Some (replicate count 0)) before) tt

pub one_remove : (key : ShadowKey) (before : Option (List ℕ)) (old : List Change) → IsSome before → RewritesOne key before None old (old ++ Remove key ∷ [])
one_remove key before old there = one_change (Remove key) before None old (λ same. there) (at_own key None before) tt

pub one_patch : (key : ShadowKey) (at : ℕ) (bytes body : List ℕ) (old : List Change) → at + length bytes ≤ length body → length bytes ≤ MOST_CHANGE_BYTES → RewritesOne key (Some body) (Some (patched body at bytes)) old (old ++ Patch key at bytes ∷ [])
one_patch key at bytes body old lies short = one_change (Patch key at bytes) (Some body) (Some (patched body at bytes)) old (λ same. lies) (at_own key (Some (patched body at bytes)) (Some body)) short
