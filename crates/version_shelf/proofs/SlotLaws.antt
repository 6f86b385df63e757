-- Versions by place, and where each came from.
use Rattle.std.proofs.Common.{◌≡◌, add-one, ℕ, zero, suc, ◌+◌, ◌<◌, List, [], ◌∷◌, ◌++◌, length, get_or, set, map, take, drop, cond, eqb, Bool, true, false, Option, Some, None, refl, sym, ap, ap₂, ◌∙◌, subst, arith, ⊎_elim}
use Rattle.std.proofs.lemmas.List.{length-map, map-set, get_or-set_same, get_or-set_other, get_or_default}
use Rattle.std.proofs.lemmas.Bool.{cases_eq, eqb-false}
use Rattle.table_version.specs.Versions.{VersionState, Follows}
use Rattle.version_shelf.specs.declared.slots.Kept.{Kept}
use Rattle.std.specs.Prelude.{IfOk, Result}
use Rattle.version_shelf.specs.OnShelf.{at_place, Keeps, OnShelf, shown}
use Rattle.version_shelf.specs.inner.Slots.{Alike}
use Rattle.version_shelf.proofs.PlaceLaws.{keeps-set, put-on, put-shown}
use Rattle.version_shelf.specs.Shares.{FollowsIn, ComesFrom, IsShared}
use Rattle.version_shelf.specs.inner.Origins.{version_in, origin_in, versions, AllFollow, but, cleared}

get-cleared : (place : ℕ) (ks : List (Option Kept)) (p : ℕ) → get_or (map (cleared place) ks) p None ≡ cleared place (get_or ks p None)
get-cleared place [] p = refl
get-cleared place (k ∷ ks) zero = refl
get-cleared place (k ∷ ks) (suc p) = get-cleared place ks p

pub get-versions : (ks : List (Option Kept)) (p : ℕ) → get_or (versions ks) p None ≡ version_in (get_or ks p None)
get-versions [] p = refl
get-versions (k ∷ ks) zero = refl
get-versions (k ∷ ks) (suc p) = get-versions ks p

origin-cleared : (place : ℕ) (o : Option Kept) → origin_in (cleared place o) ≡ but place (origin_in o)
origin-cleared place None = refl
origin-cleared place (Some k) = refl

version-cleared : (place : ℕ) (o : Option Kept) → version_in (cleared place o) ≡ version_in o
version-cleared place None = refl
version-cleared place (Some k) = refl

versions-cleared : (place : ℕ) (ks : List (Option Kept)) → versions (map (cleared place) ks) ≡ versions ks
versions-cleared place [] = refl
versions-cleared place (k ∷ ks) = ap₂ ◌∷◌ (version-cleared place k) (versions-cleared place ks)

pub versions-set : (ks : List (Option Kept)) (p : ℕ) (o : Option Kept) → versions (set ks p o) ≡ set (versions ks) p (version_in o)
versions-set ks p o = map-set version_in ks p o

comes-kept : (vs : List (Option VersionState)) (place : ℕ) (w : Option VersionState) (o : Option ℕ) (v : Option VersionState) → get_or vs place None ≡ None → ComesFrom vs o v → ComesFrom (set vs place w) o v
comes-kept vs place w None v e h = tt
comes-kept vs place w (Some q) v e h =
    ⊎_elim
    (λ (same : q ≡ place). absurd (subst (λ (o : Option VersionState). FollowsIn o v) (ap (λ k. get_or vs k None) same ∙ e) h))
    (λ ne. subst (λ (o : Option VersionState). FollowsIn o v) (sym (get_or-set_other vs place q w None ne)) h)
    (cases_eq q place)

pub put-follow : (ks : List (Option Kept)) (place : ℕ) (k : Kept) → AllFollow ks → get_or (versions ks) place None ≡ None → place < length ks → ComesFrom (versions ks) k.origin (Some k.version) → AllFollow (set ks place (Some k))
put-follow ks place k all e lt from p =
    subst (λ (vs : List (Option VersionState)). ComesFrom vs (origin_in (get_or (set ks place (Some k)) p None)) (get_or vs p None)) (sym (versions-set ks place (Some k)))
    (⊎_elim
    (λ (same : p ≡ place).
    let here : get_or (set ks place (Some k)) p None ≡ Some k = ap (λ j. get_or (set ks place (Some k)) j None) same ∙ get_or-set_same ks place (Some k) None lt in
    let there : get_or (set (versions ks) place (Some k.version)) p None ≡ Some k.version = sym (ap (λ vs. get_or vs p None) (versions-set ks place (Some k))) ∙ get-versions (set ks place (Some k)) p ∙ ap version_in here in
    rw (here, there) (comes-kept (versions ks) place (Some k.version) k.origin (Some k.version) e from))
    (λ ne.
    rw (get_or-set_other ks place p (Some k) None ne, get_or-set_other (versions ks) place p (Some k.version) None ne)
    (comes-kept (versions ks) place (Some k.version) (origin_in (get_or ks p None)) (get_or (versions ks) p None) e (all p)))
    (cases_eq p place))

set-none : (ks : List (Option Kept)) (p : ℕ) → get_or (set ks p None) p None ≡ None
set-none [] p = refl
set-none (k ∷ ks) zero = refl
set-none (k ∷ ks) (suc p) = set-none ks p

free-one : (vs : List (Option VersionState)) (place : ℕ) (o : Option ℕ) (v : Option VersionState) → ComesFrom vs o v → ComesFrom (set vs place None) (but place o) v
free-one vs place None v h = tt
free-one vs place (Some q) v h = at (eqb q place) refl where
  at : (b : Bool) → eqb q place ≡ b → ComesFrom (set vs place None) (cond b None (Some q)) v
  at true e = tt
  at false e = subst (λ (o : Option VersionState). FollowsIn o v) (sym (get_or-set_other vs place q None None (eqb-false q place e))) h

pub versions-free : (ks : List (Option Kept)) (place : ℕ) → versions (set (map (cleared place) ks) place None) ≡ set (versions ks) place None
versions-free ks place = versions-set (map (cleared place) ks) place None ∙ ap (λ vs. set vs place None) (versions-cleared place ks)

pub free-follow : (ks : List (Option Kept)) (place : ℕ) → AllFollow ks → AllFollow (set (map (cleared place) ks) place None)
free-follow ks place all p =
    subst (λ (vs : List (Option VersionState)). ComesFrom vs (origin_in (get_or (set (map (cleared place) ks) place None) p None)) (get_or vs p None)) (sym (versions-free ks place))
    (⊎_elim
    (λ (same : p ≡ place).
    let here : get_or (set (map (cleared place) ks) place None) p None ≡ None = ap (λ j. get_or (set (map (cleared place) ks) place None) j None) same ∙ set-none (map (cleared place) ks) place in
    rw here tt)
    (λ ne.
    rw (get_or-set_other (map (cleared place) ks) place p None None ne, get-cleared place ks p, origin-cleared place (get_or ks p None), get_or-set_other (versions ks) place p None None ne)
    (free-one (versions ks) place (origin_in (get_or ks p None)) (get_or (versions ks) p None) (all p)))
    (cases_eq p place))

pub map_step : {A : Type 0} (f : A → A) (xs : List A) (i : ℕ) (x : A) → i < length xs → x ≡ get_or (map f (take i xs) ++ drop i xs) i x → set (map f (take i xs) ++ drop i xs) i (f x) ≡ map f (take (i + 1) xs) ++ drop (i + 1) xs
map_step f [] i x lt e = absurd (omega arith)
map_step f (a ∷ ys) zero x lt e = ap (λ y. f y ∷ ys) e
map_step f (a ∷ ys) (suc i) x lt e = rw add-one (ap (λ l. f a ∷ l) (map_step f ys i x (omega arith) e ∙ rw add-one refl))

pub shown-at : (ks : List (Option Kept)) (vs : List (Option VersionState)) (p : ℕ) (o : Option Kept) (k : Kept) → p < length ks → o ≡ get_or ks p o → o ≡ Some k → versions ks ≡ vs → get_or vs p None ≡ Some k.version
shown-at ks vs p o k lt e f g = ap (λ l. get_or l p None) (sym g) ∙ get-versions ks p ∙ ap version_in (get_or_default ks p None o lt ∙ sym e ∙ f)

comes-alike : (vs ws : List (Option VersionState)) (o : Option ℕ) (v : Option VersionState) → Alike vs ws → ComesFrom vs o v → ComesFrom ws o v
comes-alike vs ws None v e h = tt
comes-alike vs ws (Some q) v e h = subst (λ (o : Option VersionState). FollowsIn o v) (sym (e q)) h

pub versions-alike : (ks ls : List (Option Kept)) → Alike ks ls → Alike (versions ks) (versions ls)
versions-alike ks ls a p = get-versions ls p ∙ ap version_in (a p) ∙ sym (get-versions ks p)

pub alike-follow : (ks ls : List (Option Kept)) → Alike ks ls → AllFollow ks → AllFollow ls
alike-follow ks ls a all p =
    rw (a p, versions-alike ks ls a p) (comes-alike (versions ks) (versions ls) (origin_in (get_or ks p None)) (get_or (versions ks) p None) (versions-alike ks ls a) (all p))

-- a version goes to an empty place, behind a change of the room
pub put-follow-alike : (ks ls : List (Option Kept)) (place : ℕ) (k : Kept) → Alike ks ls → AllFollow ks → get_or ls place None ≡ None → place < length ls → ComesFrom (versions ks) k.origin (Some k.version) → AllFollow (set ls place (Some k))
put-follow-alike ks ls place k a all e lt from =
    put-follow ls place k (alike-follow ks ls a all) (get-versions ls place ∙ ap version_in e) lt (comes-alike (versions ks) (versions ls) k.origin (Some k.version) (versions-alike ks ls a) from)

pub put-keeps : (vs : List (Option VersionState)) (ks ls : List (Option Kept)) (place : ℕ) (k : Kept) → versions ks ≡ vs → Alike ks ls → get_or ls place None ≡ None → Keeps vs (versions (set ls place (Some k)))
put-keeps vs ks ls place k is a e =
    rw (sym is, versions-set ls place (Some k))
    (keeps-set (versions ks) (versions ls) place (Some k.version) (λ p there. versions-alike ks ls a p) (get-versions ls place ∙ ap version_in e))

pub alike-keeps : (vs : List (Option VersionState)) (ks ls : List (Option Kept)) → versions ks ≡ vs → Alike ks ls → Keeps vs (versions ls)
alike-keeps vs ks ls is a = rw (sym is) (λ p there. versions-alike ks ls a p)

pub put-on-alike : (vs : List (Option VersionState)) (ks ls : List (Option Kept)) (place n : ℕ) (k : Kept) (qs : List (Option ℕ)) → versions ks ≡ vs → Alike ks ls → get_or ls place None ≡ None → place < length ls → OnShelf vs qs →
    OnShelf (versions (set ls place (Some k))) (set qs n (Some place)) × (shown (versions (set ls place (Some k))) (set qs n (Some place)) ≡ set (shown vs qs) n (Some k.version))
put-on-alike vs ks ls place n k qs is a e lt on =
    let lt' : place < length (versions ls) = rw length-map lt in
    let none : get_or (versions ls) place None ≡ None = get-versions ls place ∙ ap version_in e in
    let kept : Keeps vs (versions ls) = alike-keeps vs ks ls is a in
    rw (versions-set ls place (Some k))
    (put-on vs (versions ls) place n k.version qs kept none lt' on, put-shown vs (versions ls) place n k.version qs kept none lt' on)

-- ---- equal versions

some_is : {X : Type 0} {a b : X} → Some a ≡ Some b → a ≡ b
some_is e = cc

-- a fresh one follows the version that it was shared from
pub shared-fresh : (ks : List (Option Kept)) (place : ℕ) (version new : VersionState) → version_in (get_or ks place None) ≡ Some version → new.table ≡ version.table → Follows version.table new → (old : VersionState) →
    version_in (get_or ks place None) ≡ Some old → IsShared (versions ks) old new (Some place)
shared-fresh ks place version new is same follows old at = record {
  same = same ∙ ap (λ (v : VersionState). v.table) (some_is (sym is ∙ at));
  from = subst (λ (o : Option VersionState). FollowsIn o (Some new)) (sym (get-versions ks place ∙ is)) follows;
}

-- another one follows what that version follows
pub shared-kept : (ks : List (Option Kept)) (place : ℕ) (version new : VersionState) → AllFollow ks → version_in (get_or ks place None) ≡ Some version → new ≡ version → (old : VersionState) →
    version_in (get_or ks place None) ≡ Some old → IsShared (versions ks) old new (origin_in (get_or ks place None))
shared-kept ks place version new all is same old at = record {
  same = ap (λ (v : VersionState). v.table) (same ∙ some_is (sym is ∙ at));
  from = subst (λ (o : Option VersionState). ComesFrom (versions ks) (origin_in (get_or ks place None)) o) (get-versions ks place ∙ is ∙ ap Some (sym same)) (all place);
}

-- the same by the number in a catalog
pub shared-numbered : {E : Type 0} (ks : List (Option Kept)) (shelf : List (Option VersionState)) (places : List (Option ℕ)) (n place : ℕ) (result : Result Kept E) → versions ks ≡ shelf → get_or places n None ≡ Some place →
    ((old : VersionState) → version_in (get_or ks place None) ≡ Some old → IfOk result (λ kept. IsShared (versions ks) old kept.version kept.origin)) →
    (old : VersionState) → at_place shelf (get_or places n None) ≡ Some old → IfOk result (λ kept. IsShared shelf old kept.version kept.origin)
shared-numbered ks shelf places n place result view named shares old at =
    subst (λ (s : List (Option VersionState)). IfOk result (λ kept. IsShared s old kept.version kept.origin)) view
    (shares old (sym (get-versions ks place) ∙ ap (λ s. get_or s place None) view ∙ ap (at_place shelf) (sym named) ∙ at))
