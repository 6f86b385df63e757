-- Places that no catalog names are emptied.
use Rattle.std.proofs.Common.{◌≡◌, ℕ, zero, suc, ◌+◌, List, [], ◌∷◌, length, get_or, set, Option, None, refl, sym, ap, ◌∙◌, subst, arith, ⊎_elim}
use Rattle.std.proofs.lemmas.Bool.{cases_eq}
use Rattle.std.proofs.lemmas.List.{get_or-set_other, length-set}
use Rattle.version_shelf.specs.declared.held.Held.{Held}
use Rattle.version_shelf.proofs.PlaceLaws.{free-one}
use Rattle.txn_sessions.specs.declared.machine.Machine.{Machine}
use Rattle.txn_sessions.specs.declared.session.OpenSession.{OpenSession}
use Rattle.txn_sessions.specs.declared.session.Origin.{Origin}
use Rattle.txn_sessions.specs.declared.session.Origin.TheVariants.{Kept, Table}
use Rattle.txn_sessions.specs.Moves.{Moved, Stays}
use Rattle.txn_sessions.specs.Seen.{Versions}
use Rattle.txn_sessions.specs.Sound.{InAll, IsOn, IsOrigin, IsSound}
use Rattle.txn_sessions.specs.Sweeps.{Frees, IsUnnamed, Misses, MissesOrigin, SweepsTo}
use Rattle.txn_sessions.proofs.MoveLaws.{OriginStays, all-both, moved-on, moves}

frees : (shelf : Versions) (place : ℕ) (h : Held) → IsOn shelf h → Misses place h → Stays shelf (set shelf place None) h
frees shelf place h on misses = (let one = free-one shelf h.places place misses on in record { on = one.0; shows = one.1 })

frees_origin : (shelf : Versions) (place : ℕ) (o : Origin) → IsOrigin shelf o → MissesOrigin place o → OriginStays shelf (set shelf place None) o
frees_origin shelf place Kept on misses = tt
frees_origin shelf place (Table held number plan) on misses = (frees shelf place held on.on misses, on)

freed-moves : (old new : Machine) (place : ℕ) → IsSound old → IsUnnamed place old → new.shelf ≡ set old.shelf place None → new.held ≡ old.held → new.commits ≡ old.commits → new.last_id ≡ old.last_id →
    new.sessions.items ≡ old.sessions.items → Moved old new
freed-moves old new place sound misses shelf held commits last_id sessions =
    moves old new
    (subst (λ (s : Versions). InAll (Stays old.shelf s) (OriginStays old.shelf s) old.held old.sessions.items) (sym shelf)
    (all-both (IsOn old.shelf) (Misses place) (Stays old.shelf (set old.shelf place None)) (IsOrigin old.shelf) (MissesOrigin place) (OriginStays old.shelf (set old.shelf place None))
    (frees old.shelf place) (frees_origin old.shelf place) old.held old.sessions.items sound misses))
    held commits last_id sessions

set-none : {A : Type 0} (xs : List (Option A)) (p : ℕ) → get_or (set xs p None) p None ≡ None
set-none [] p = refl
set-none (x ∷ xs) zero = refl
set-none (x ∷ xs) (suc p) = set-none xs p

set-empty : {A : Type 0} (xs : List (Option A)) (p q : ℕ) → get_or xs q None ≡ None → get_or (set xs p None) q None ≡ None
set-empty xs p q empty =
    ⊎_elim
    (λ (e : q ≡ p). ap (λ k. get_or (set xs p None) k None) e ∙ set-none xs p)
    (λ ne. get_or-set_other xs p q None None ne ∙ empty)
    (cases_eq q p)

pub freed : (old new : Machine) (place : ℕ) → IsSound old → IsUnnamed place old → new.shelf ≡ set old.shelf place None → new.held ≡ old.held → new.commits ≡ old.commits → new.last_id ≡ old.last_id →
    new.sessions.items ≡ old.sessions.items → Frees place old new
freed old new place sound misses shelf held commits last_id sessions = record {
  moved = freed-moves old new place sound misses shelf held commits last_id sessions;
  size = ap length shelf ∙ length-set old.shelf place None;
  swept = λ unnamed. ap (λ (s : Versions). get_or s place None) shelf ∙ set-none old.shelf place;
  others = λ other empty. ap (λ (s : Versions). get_or s other None) shelf ∙ set-empty old.shelf place other empty;
}

-- ---- place by place

unnamed-moved : (old new : Machine) (place : ℕ) → Moved old new → IsUnnamed place new → IsUnnamed place old
unnamed-moved old new place moved unnamed =
    subst (λ (ss : List OpenSession). InAll (Misses place) (MissesOrigin place) old.held ss) moved.sessions
    (subst (λ (h : Held). InAll (Misses place) (MissesOrigin place) h new.sessions.items) moved.held unnamed)

pub sweeps-more : (old mid new : Machine) (most : ℕ) → SweepsTo most old mid → Frees most mid new → SweepsTo (most + 1) old new
sweeps-more old mid new most so one = record {
  moved = moved-on old mid new so.moved one.moved;
  size = one.size ∙ so.size;
  swept = λ place below unnamed.
      ⊎_elim
      (λ (e : place ≡ most). ap (λ k. get_or new.shelf k None) e ∙ one.swept (subst (λ k. IsUnnamed k new) e unnamed))
      (λ ne. one.others place (so.swept place (omega (arith, below, ne)) (unnamed-moved mid new place one.moved unnamed)))
      (cases_eq place most);
}
