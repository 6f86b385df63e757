-- What torn writes leave of a file with a gate behind a front.
use Rattle.std.proofs.Common.{◌≡◌, ◌≢◌, ℕ, ◌+◌, ◌≤◌, ◌<◌, Bool, true, false, List, [], ◌∷◌, ◌++◌, length, get_or, take, drop, sym, ◌∙◌, ap, subst, arith, append_assoc, length-append, take-append-drop}
use Rattle.std.proofs.lemmas.List.{take_at, drop_at, drop_more}
use Rattle.journal_disk.specs.Disk.{Torn, Follows, Only}
use Rattle.journal_disk.specs.History.{put}
use Rattle.journal_writes.specs.Moments.{TornFrom, AllAre}
use Rattle.journal_writes.specs.Gates.{Stands, Gated, Rests}

module _ (front : List ℕ) (place : ℕ) (is : place ≡ length front) where
  head : (gate : ℕ) (rest : List ℕ) → take (place + 1) (front ++ gate ∷ rest) ≡ front ++ gate ∷ []
  head gate rest =
      ap (λ (l : List ℕ). take (place + 1) l) (sym (append_assoc front (gate ∷ []) rest))
      ∙ take_at (front ++ gate ∷ []) rest (place + 1) (omega (arith, length-append front (gate ∷ [])))

  pub back : (gate : ℕ) (rest : List ℕ) → drop (place + 1) (front ++ gate ∷ rest) ≡ rest
  back gate rest =
      ap (λ (l : List ℕ). drop (place + 1) l) (sym (append_assoc front (gate ∷ []) rest))
      ∙ drop_at (front ++ gate ∷ []) rest (place + 1) (omega (arith, length-append front (gate ∷ [])))

  -- a file with the same front and gate stands for the same
  stands_head : (d c : List ℕ) → Stands front d → take (place + 1) c ≡ take (place + 1) d → Stands front c
  stands_head d c stands same =
      let gate = stands.0 in
      let rest = drop (place + 1) c in
      let first : take (place + 1) c ≡ front ++ gate ∷ [] = same ∙ ap (λ (l : List ℕ). take (place + 1) l) stands.3 ∙ head gate stands.1 in
      (gate, rest, stands.2, sym (take-append-drop (place + 1) c) ∙ ap (λ (l : List ℕ). l ++ rest) first ∙ append_assoc front (gate ∷ []) rest)

  -- a write behind the gate that is cut short
  pub stands_torn : (n : ℕ) (old : List ℕ → Type 0) → AllAre (Stands front) old → AllAre (Stands front) (TornFrom old (place + 1) n)
  stands_torn n old all c from = stands_head from.0 c (all from.0 from.1) from.2.before

  -- a write of the gate that is cut short
  pub gated_torn : (tail : List ℕ) (old : List ℕ → Type 0) → AllAre (Gated front tail) old → AllAre (Gated front tail) (TornFrom old place 1)
  gated_torn tail old all c from =
      let d = from.0 in
      let gated = all d from.1 in
      let torn = from.2 in
      let gate = get_or c place 0 in
      let long : place + 1 ≤ length d = omega (arith, ap length gated.1, length-append front (gated.0 ∷ tail)) in
      let before : take place c ≡ front = torn.before ∙ ap (λ (l : List ℕ). take place l) gated.1 ∙ take_at front (gated.0 ∷ tail) place (sym is) in
      let after : drop (place + 1) c ≡ tail = torn.after ∙ ap (λ (l : List ℕ). drop (place + 1) l) gated.1 ∙ back gated.0 tail in
      let more : drop place c ≡ gate ∷ tail = drop_more c place 0 (omega (arith, torn.no_shorter)) ∙ ap (λ (l : List ℕ). gate ∷ l) after in
      (gate, sym (take-append-drop place c) ∙ ap (λ (l : List ℕ). l ++ drop place c) before ∙ ap (λ (l : List ℕ). front ++ l) more)

  -- the block that went through
  pub staged_put : (old staged : List ℕ) → Stands front old → (gate : ℕ) × (rest : List ℕ) × (gate ≢ 1) × (put old (place + 1) staged ≡ front ++ gate ∷ (staged ++ rest))
  staged_put old staged stands =
      let gate = stands.0 in
      let rest = drop (place + 1 + length staged) old in
      let first : take (place + 1) old ≡ front ++ gate ∷ [] = ap (λ (l : List ℕ). take (place + 1) l) stands.3 ∙ head gate stands.1 in (
        gate,
        rest,
        stands.2,
        ap (λ (l : List ℕ). l ++ staged ++ rest) first ∙ append_assoc (front ++ gate ∷ []) staged rest ∙ append_assoc front (gate ∷ []) (staged ++ rest),
      )

  -- the gate that went through
  pub gate_put : (tail file : List ℕ) (value : ℕ) → Gated front tail file → put file place (value ∷ []) ≡ front ++ value ∷ tail
  gate_put tail file value gated =
      let before : take place file ≡ front = ap (λ (l : List ℕ). take place l) gated.1 ∙ take_at front (gated.0 ∷ tail) place (sym is) in
      let after : drop (place + 1) file ≡ tail = ap (λ (l : List ℕ). drop (place + 1) l) gated.1 ∙ back gated.0 tail in
      ap (λ (l : List ℕ). l ++ value ∷ [] ++ drop (place + 1) file) before ∙ ap (λ (l : List ℕ). front ++ value ∷ [] ++ l) after ∙ append_assoc front (value ∷ []) tail

  pub stands_long : (file : List ℕ) → Stands front file → place < length file
  stands_long file stands = omega (arith, ap length stands.3, length-append front (stands.0 ∷ stands.1))

  pub gated_long : (tail file : List ℕ) → Gated front tail file → place < length file
  gated_long tail file gated = omega (arith, ap length gated.1, length-append front (gated.0 ∷ tail))

-- ---- uncertain or not

pub as_gated : (u : Bool) → u ≡ true → (front tail file : List ℕ) → Rests u front tail file → Gated front tail file
as_gated true e front tail file rests = rests
as_gated false e front tail file rests = absurd cc

pub from_gated : (u : Bool) → u ≡ true → (front tail file : List ℕ) → Gated front tail file → Rests u front tail file
from_gated true e front tail file gated = gated
from_gated false e front tail file gated = absurd cc

pub as_stands : (u : Bool) → u ≡ false → (front tail file : List ℕ) → Rests u front tail file → Stands front file
as_stands false e front tail file rests = rests
as_stands true e front tail file rests = absurd cc

pub all_weaker : (P Q images : List ℕ → Type 0) → ((c : List ℕ) → P c → Q c) → AllAre P images → AllAre Q images
all_weaker P Q images f all c now = f c (all c now)

pub follows_all : (at n : ℕ) (P old new : List ℕ → Type 0) → AllAre P (TornFrom old at n) → Follows (Torn at n) old new → AllAre P new
follows_all at n P old new all follows c now = all c (follows c now)

pub only_are : (P images : List ℕ → Type 0) (file : List ℕ) → Only file images → P file → AllAre P images
only_are P images file only is c now = subst P (sym (only c now)) is
