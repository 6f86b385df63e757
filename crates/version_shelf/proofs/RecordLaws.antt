-- Batches of several tables, one after another.
use Rattle.std.proofs.Common.{◌≡◌, ℕ, zero, suc, ◌+◌, ◌<◌, List, [], ◌∷◌, ◌++◌, length, get_or, set, take, drop, refl, sym, ap, ◌∙◌, subst, arith, Some, None, ⊎_elim, add-one}
use Rattle.std.specs.FinMap.{get}
use Rattle.std.specs.declared.option.Option.{Option}
use Rattle.std.proofs.lemmas.Bool.{cases_eq}
use Rattle.std.proofs.lemmas.List.{get_or-set_same, get_or-set_other}
use Rattle.vec_base.specs.declared.shadow.Change.{Change}
use Rattle.vec_base.specs.declared.shadow.ShadowKey.{ShadowKey}
use Rattle.shadow_keeper.specs.Keeping.{AreShort}
use Rattle.shadow_records.specs.Batches.{AllApply, applied, changed}
use Rattle.shadow_records.specs.Keys.{Tables}
use Rattle.shadow_records.specs.PlacedTables.{PlacedTable}
use Rattle.shadow_records.specs.StandsFor.{record_in}
use Rattle.table_changes.specs.Turning.{Turned, Turns}
use Rattle.table_version.specs.Versions.{VersionState, Follows}
use Rattle.version_shelf.specs.Numbers.{under}
use Rattle.version_shelf.specs.OnShelf.{at_place, shown}
use Rattle.version_shelf.specs.Records.{HoldsRecords, TurnsAll, table_in}
use Rattle.version_shelf.specs.Shares.{FollowsIn}

applied-append : (xs ys : List Change) (tables : Tables) → applied (xs ++ ys) tables ≡ applied ys (applied xs tables)
applied-append [] ys tables = refl
applied-append (c ∷ cs) ys tables = applied-append cs ys (changed c tables)

apply-append : (xs ys : List Change) (tables : Tables) → AllApply xs tables → AllApply ys (applied xs tables) → AllApply (xs ++ ys) tables
apply-append [] ys tables a b = b
apply-append (c ∷ cs) ys tables a b = (a.0, apply-append cs ys (changed c tables) a.1 b)

pub short-append : (xs ys : List Change) → AreShort xs → AreShort ys → AreShort (xs ++ ys)
short-append [] ys a b = b
short-append (c ∷ cs) ys a b = (a.0, short-append cs ys a.1 b)

-- no changes between equal catalogs
pub turns-none : (versions : List (Option VersionState)) → TurnsAll versions versions []
turns-none versions tables holds = (tt, holds)

pub turns-nothing : (number : ℕ) (table : Option PlacedTable) → Turns number table table []
turns-nothing number table tables are = record { apply = tt; those = are; others = λ key other. refl }

-- one batch and then another
pub turns-then : (a b c : List (Option VersionState)) (xs ys : List Change) → TurnsAll a b xs → TurnsAll b c ys → TurnsAll a c (xs ++ ys)
turns-then a b c xs ys one more tables holds =
    let first = one tables holds in
    let second = more (applied xs tables) first.1 in
    (apply-append xs ys tables first.0 second.0, subst (λ z. HoldsRecords z c) (sym (applied-append xs ys tables)) second.1)

-- the changes of one table change one of the versions
pub turns-one : (versions : List (Option VersionState)) (at : ℕ) (version : Option VersionState) (changes : List Change) → at < length versions →
    Turns (suc at) (table_in (get_or versions at None)) (table_in version) changes → TurnsAll versions (set versions at version) changes
turns-one versions at version changes lt turns tables holds = (turned.apply, λ key. each key key.table refl) where
  turned : Turned (suc at) (table_in version) changes tables
  turned = turns tables (λ key is. holds key ∙ ap (λ n. record_in (table_in (under n versions)) key) is)

  kept : (key : ShadowKey) → (key.table ≡ suc at → ⊥) → get (applied changes tables) key ≡ record_in (table_in (under key.table versions)) key
  kept key other = turned.others key other ∙ holds key

  each : (key : ShadowKey) (n : ℕ) → key.table ≡ n → get (applied changes tables) key ≡ record_in (table_in (under key.table (set versions at version))) key
  each key zero is =
      kept key (λ same. absurd (omega (arith, same, is)))
      ∙ ap (λ k. record_in (table_in (under k versions)) key) is ∙ sym (ap (λ k. record_in (table_in (under k (set versions at version))) key) is)
  each key (suc n) is = ⊎_elim here there (cases_eq n at) where
    here : n ≡ at → get (applied changes tables) key ≡ record_in (table_in (under key.table (set versions at version))) key
    here same =
        turned.those key (is ∙ ap suc same)
        ∙ sym (ap (λ k. record_in (table_in (under k (set versions at version))) key) is ∙ ap (λ k. record_in (table_in (get_or (set versions at version) k None)) key) same
        ∙ ap (λ v. record_in (table_in v) key) (get_or-set_same versions at version None lt))

    there : (n ≡ at → ⊥) → get (applied changes tables) key ≡ record_in (table_in (under key.table (set versions at version))) key
    there ne =
        kept key (λ same. ne (let e : suc n ≡ suc at = sym is ∙ same in omega (arith, e)))
        ∙ ap (λ k. record_in (table_in (under k versions)) key) is
        ∙ sym (ap (λ k. record_in (table_in (under k (set versions at version))) key) is ∙ ap (λ v. record_in (table_in v) key) (get_or-set_other versions at n version None ne))

-- ---- from one catalog to another, number by number

-- the first ones of the newer catalog, and then those of the older one
abbrev pub mixed : List (Option VersionState) → List (Option VersionState) → ℕ → List (Option VersionState)
mixed older newer n = take n newer ++ drop n older

mixed-at : (older newer : List (Option VersionState)) (n : ℕ) → n < length older → length older ≡ length newer → get_or (mixed older newer n) n None ≡ get_or older n None
mixed-at [] newer n lt same = absurd (omega arith)
mixed-at (o ∷ os) [] n lt same = absurd (omega (arith, same))
mixed-at (o ∷ os) (x ∷ xs) zero lt same = refl
mixed-at (o ∷ os) (x ∷ xs) (suc n) lt same = mixed-at os xs n (omega (arith, lt)) (omega (arith, same))

mixed-next : (older newer : List (Option VersionState)) (n : ℕ) → n < length older → length older ≡ length newer → set (mixed older newer n) n (get_or newer n None) ≡ mixed older newer (suc n)
mixed-next [] newer n lt same = absurd (omega arith)
mixed-next (o ∷ os) [] n lt same = absurd (omega (arith, same))
mixed-next (o ∷ os) (x ∷ xs) zero lt same = refl
mixed-next (o ∷ os) (x ∷ xs) (suc n) lt same = ap (λ l. x ∷ l) (mixed-next os xs n (omega (arith, lt)) (omega (arith, same)))

mixed-length : (older newer : List (Option VersionState)) (n : ℕ) → n < length older → length older ≡ length newer → n < length (mixed older newer n)
mixed-length [] newer n lt same = absurd (omega arith)
mixed-length (o ∷ os) [] n lt same = absurd (omega (arith, same))
mixed-length (o ∷ os) (x ∷ xs) zero lt same = omega arith
mixed-length (o ∷ os) (x ∷ xs) (suc n) lt same = let rest = mixed-length os xs n (omega (arith, lt)) (omega (arith, same)) in omega (arith, rest)

-- one number more
pub mixed-turns : (older newer : List (Option VersionState)) (n : ℕ) (xs ys : List Change) → n < length older → length older ≡ length newer → TurnsAll older (mixed older newer n) xs →
    Turns (n + 1) (table_in (get_or older n None)) (table_in (get_or newer n None)) ys → TurnsAll older (mixed older newer (n + 1)) (xs ++ ys)
mixed-turns older newer n xs ys lt same one more =
    subst (λ k. TurnsAll older (mixed older newer k) (xs ++ ys)) (sym (add-one n))
    (turns-then older (mixed older newer n) (mixed older newer (suc n)) xs ys one
    (subst (λ l. TurnsAll (mixed older newer n) l ys) (mixed-next older newer n lt same)
    (turns-one (mixed older newer n) n (get_or newer n None) ys (mixed-length older newer n lt same)
    (subst (λ v. Turns (suc n) (table_in v) (table_in (get_or newer n None)) ys) (sym (mixed-at older newer n lt same))
    (subst (λ k. Turns k (table_in (get_or older n None)) (table_in (get_or newer n None)) ys) (add-one n) more)))))

pub mixed-all : (older newer : List (Option VersionState)) (n : ℕ) → n ≡ length older → length older ≡ length newer → mixed older newer n ≡ newer
mixed-all [] [] zero e same = refl
mixed-all [] [] (suc n) e same = absurd (omega (arith, e))
mixed-all [] (x ∷ xs) n e same = absurd (omega (arith, same))
mixed-all (o ∷ os) [] n e same = absurd (omega (arith, same))
mixed-all (o ∷ os) (x ∷ xs) zero e same = absurd (omega (arith, e))
mixed-all (o ∷ os) (x ∷ xs) (suc n) e same = ap (λ l. x ∷ l) (mixed-all os xs n (omega (arith, e)) (omega (arith, same)))

-- the versions at two places, of which the one follows the other
pub follows-in : (older newer : Option VersionState) (old new : VersionState) → older ≡ Some old → newer ≡ Some new → FollowsIn older newer → Follows old.table new
follows-in older newer old new e f h = subst (λ (y : Option VersionState). FollowsIn (Some old) y) f (subst (λ (x : Option VersionState). FollowsIn x newer) e h)

pub followed-there : (older newer : Option VersionState) → older ≡ None → FollowsIn older newer → ⊥
followed-there older newer e h = subst (λ (x : Option VersionState). FollowsIn x newer) e h

-- ---- by the places of two catalogs

shown-get : (shelf : List (Option VersionState)) (places : List (Option ℕ)) (n : ℕ) → get_or (shown shelf places) n None ≡ at_place shelf (get_or places n None)
shown-get shelf [] n = refl
shown-get shelf (p ∷ ps) zero = refl
shown-get shelf (p ∷ ps) (suc n) = shown-get shelf ps n

pub shown-length : (shelf : List (Option VersionState)) (places : List (Option ℕ)) → length (shown shelf places) ≡ length places
shown-length shelf [] = refl
shown-length shelf (p ∷ ps) = ap suc (shown-length shelf ps)

pub places-turn : (shelf : List (Option VersionState)) (olds news : List (Option ℕ)) (n : ℕ) (xs ys : List Change) → n < length olds → length olds ≡ length news → TurnsAll (shown shelf olds) (mixed (shown shelf olds) (shown shelf news) n) xs →
    Turns (n + 1) (table_in (at_place shelf (get_or olds n None))) (table_in (at_place shelf (get_or news n None))) ys → TurnsAll (shown shelf olds) (mixed (shown shelf olds) (shown shelf news) (n + 1)) (xs ++ ys)
places-turn shelf olds news n xs ys lt same one more =
    let a = shown-length shelf olds in
    let b = shown-length shelf news in
    mixed-turns (shown shelf olds) (shown shelf news) n xs ys (omega (arith, lt, a)) (a ∙ same ∙ sym b) one
    (subst (λ v. Turns (n + 1) (table_in v) (table_in (get_or (shown shelf news) n None)) ys) (sym (shown-get shelf olds n))
    (subst (λ v. Turns (n + 1) (table_in (at_place shelf (get_or olds n None))) (table_in v) ys) (sym (shown-get shelf news n)) more))

pub places-turned : (shelf : List (Option VersionState)) (olds news : List (Option ℕ)) (n : ℕ) (xs : List Change) → n ≡ length olds → length olds ≡ length news → TurnsAll (shown shelf olds) (mixed (shown shelf olds) (shown shelf news) n) xs →
    TurnsAll (shown shelf olds) (shown shelf news) xs
places-turned shelf olds news n xs e same turns =
    subst (λ l. TurnsAll (shown shelf olds) l xs) (mixed-all (shown shelf olds) (shown shelf news) n (e ∙ sym (shown-length shelf olds)) (shown-length shelf olds ∙ same ∙ sym (shown-length shelf news))) turns
