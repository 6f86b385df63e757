-- What the images of a journal show.
use Rattle.std.proofs.Common.{◌≡◌, ◌≢◌, ◌⊎◌, inl, inr, ⊎_elim, ℕ, ◌+◌, ◌<◌, Bool, true, false, IsTrue, List, [], ◌∷◌, ◌++◌, length, take, Option, Some, refl, sym, ap, subst, ◌∙◌, append_assoc, arith}
use Rattle.std.proofs.lemmas.Bool.{cases_eq}
use Rattle.std.proofs.lemmas.List.{take_at}
use Rattle.shadow_records.specs.Keys.{Tables}
use Rattle.journal_format.specs.Reading.{tables_of, some_tables, shown}
use Rattle.journal_format.specs.Fronts.{Leads}
use Rattle.journal_writes.specs.Moments.{AllAre}
use Rattle.journal_writes.specs.Gates.{Stands, Gated, Rests, MayShow}
use Rattle.journal_batches.specs.Stopping.{tables_or_none, tables_up_to, Shows, IsKept}
use Rattle.journal_writes.proofs.GateLaws.{gate_put, stands_long, gated_long}
use Rattle.journal_format.proofs.GateLaws.{tables_shut}

-- behind a closed gate
pub stands_gives : (front : List ℕ) (n : ℕ) (m : Tables) (c : List ℕ) → Leads front n m → Stands front c → shown c ≡ Some m
stands_gives front n m c leads stands = ap shown stands.3 ∙ ap some_tables (tables_shut front n m leads stands.0 stands.1 stands.2)

pub stands_shows : (front : List ℕ) (n : ℕ) (m : Tables) (t : Option Tables) (c : List ℕ) → Leads front n m → Stands front c → shown c ≡ t → t ≡ Some m
stands_shows front n m t c leads stands e = sym e ∙ stands_gives front n m c leads stands

-- behind any gate with a block
pub block_shows : (front block rest : List ℕ) (gate n : ℕ) (m new : Tables) (t : Option Tables) (c : List ℕ) → Leads front n m → Leads (front ++ 1 ∷ block) (n + 1) new → c ≡ front ++ gate ∷ (block ++ 0 ∷ rest) → shown c ≡ t → (t ≡ Some m) ⊎ (t ≡ Some new)
block_shows front block rest gate n m new t c leads more is e =
    ⊎_elim (λ one. inr (sym e ∙ ap shown (is ∙ ap (λ (g : ℕ). front ++ g ∷ (block ++ 0 ∷ rest)) one ∙ sym (append_assoc front (1 ∷ block) (0 ∷ rest))) ∙ ap some_tables (tables_shut (front ++ 1 ∷ block) (n + 1) new more 0 rest (let P : 0 ≢ 1 = omega arith in P))))
    (λ shut. inl (sym e ∙ ap shown is ∙ ap some_tables (tables_shut front n m leads gate (block ++ 0 ∷ rest) shut))) (cases_eq gate 1)

-- ---- the tables up to the gate

take_stands : (front : List ℕ) (gate : ℕ) (c : List ℕ) → gate ≡ length front → Stands front c → take gate c ≡ front
take_stands front gate c is stands = ap (λ (l : List ℕ). take gate l) stands.3 ∙ take_at front (stands.0 ∷ stands.1) gate (sym is)

take_gated : (front tail : List ℕ) (gate : ℕ) (c : List ℕ) → gate ≡ length front → Gated front tail c → take gate c ≡ front
take_gated front tail gate c is gated = ap (λ (l : List ℕ). take gate l) gated.1 ∙ take_at front (gated.0 ∷ tail) gate (sym is)

pub take_rests : (u : Bool) (front tail : List ℕ) (gate : ℕ) (c : List ℕ) → gate ≡ length front → Rests u front tail c → take gate c ≡ front
take_rests false front tail gate c is rests = take_stands front gate c is rests
take_rests true front tail gate c is rests = take_gated front tail gate c is rests

pub rests_long : (u : Bool) (front tail : List ℕ) (gate : ℕ) (c : List ℕ) → gate ≡ length front → Rests u front tail c → gate < length c
rests_long false front tail gate c is rests = stands_long front gate is c rests
rests_long true front tail gate c is rests = gated_long front gate is tail c rests

pub kept_of : (front : List ℕ) (n gate : ℕ) (m : Tables) (reads : List ℕ) → Leads front n m → take gate reads ≡ front → tables_up_to reads gate ≡ m
kept_of front n gate m reads leads is = ap (λ (l : List ℕ). tables_or_none (tables_of (l ++ 0 ∷ []))) is ∙ ap tables_or_none (tables_shut front n m leads 0 [] (let P : 0 ≢ 1 = omega arith in P))

-- ---- between two commits

module _ (images : List ℕ → Type 0) (reads : List ℕ) (gate n : ℕ) (u : Bool) (k : IsKept images gate n u) (now : images reads) where
  pub kept_is : tables_up_to reads gate ≡ k.tables
  kept_is = kept_of k.front n gate k.tables reads k.leads (take_rests u k.front k.tail gate reads k.place (k.rests reads now))

  pub kept_long : gate < length reads
  kept_long = rests_long u k.front k.tail gate reads k.place (k.rests reads now)

-- an image between two commits is one that shows; where the gate is uncertain, any gate shows
pub rests_shows : (images : List ℕ → Type 0) (reads front tail : List ℕ) (gate n : ℕ) (u : Bool) (m : Tables) (t : Option Tables) → gate ≡ length front → Leads front n m → images reads → Rests u front tail reads
    → (c : List ℕ) → Rests u front tail c → shown c ≡ t → Shows images reads gate u t
rests_shows images reads front tail gate n false m t is leads now here c rests e =
    inl (reads, now, stands_gives front n m reads leads here ∙ sym (stands_shows front n m t c leads rests e))
rests_shows images reads front tail gate n true m t is leads now here c rests e =
    inr (refl, (rests.0, ap shown (gate_put front gate is tail reads rests.0 here ∙ sym rests.1) ∙ e))

-- the tables from before show
pub before_shows : (images : List ℕ → Type 0) (reads front tail : List ℕ) (gate n : ℕ) (u : Bool) (m : Tables) → gate ≡ length front → Leads front n m → images reads → Rests u front tail reads → Shows images reads gate u (Some m)
before_shows images reads front tail gate n false m is leads now here = inl (reads, now, stands_gives front n m reads leads here)
before_shows images reads front tail gate n true m is leads now here =
    inr (refl, (0, ap shown (gate_put front gate is tail reads 0 here) ∙ ap some_tables (tables_shut front n m leads 0 tail (let P : 0 ≢ 1 = omega arith in P))))

-- all that shows where the gate is closed
pub closed_shows : (images : List ℕ → Type 0) (reads front : List ℕ) (gate n : ℕ) (u : Bool) (m : Tables) (t : Option Tables) → u ≡ false → Leads front n m → AllAre (Stands front) images → Shows images reads gate u t → t ≡ Some m
closed_shows images reads front gate n u m t closed leads all (inl h) = stands_shows front n m t h.0 leads (all h.0 h.1) h.2
closed_shows images reads front gate n false m t closed leads all (inr h) = absurd (no_truth h.0)
  where
    no_truth : IsTrue false → ⊥
    no_truth e = cc
closed_shows images reads front gate n true m t closed leads all (inr h) = absurd cc

-- all that shows where the gate is uncertain before a block
pub open_shows : (images : List ℕ → Type 0) (reads front block rest : List ℕ) (gate n : ℕ) (u : Bool) (m new : Tables) (t : Option Tables) → gate ≡ length front → Leads front n m → Leads (front ++ 1 ∷ block) (n + 1) new
    → AllAre (Gated front (block ++ 0 ∷ rest)) images → images reads → Shows images reads gate u t → (t ≡ Some m) ⊎ (t ≡ Some new)
open_shows images reads front block rest gate n u m new t is leads more all now (inl h) = let g = all h.0 h.1 in block_shows front block rest g.0 n m new t h.0 leads more g.1 h.2
open_shows images reads front block rest gate n u m new t is leads more all now (inr h) =
    block_shows front block rest h.1.0 n m new t _ leads more (gate_put front gate is (block ++ 0 ∷ rest) reads h.1.0 (all reads now)) h.1.1

-- where the closing failed, what showed shows
pub still_shows : (old new : List ℕ → Type 0) (reads reads2 front tail : List ℕ) (gate n : ℕ) (u : Bool) (m : Tables) (t : Option Tables) → gate ≡ length front → Leads front n m → old reads → new reads2 → AllAre (Rests u front tail) old → AllAre (Rests u front tail) new
    → Shows new reads2 gate u t → Shows old reads gate u t
still_shows old new reads reads2 front tail gate n u m t is leads now now2 all all2 (inl h) = rests_shows old reads front tail gate n u m t is leads now (all reads now) h.0 (all2 h.0 h.1) h.2
still_shows old new reads reads2 front tail gate n false m t is leads now now2 all all2 (inr h) = absurd (no_truth h.0)
  where
    no_truth : IsTrue false → ⊥
    no_truth e = cc
still_shows old new reads reads2 front tail gate n true m t is leads now now2 all all2 (inr h) =
    inr (refl, (h.1.0, ap shown (gate_put front gate is tail reads h.1.0 (all reads now) ∙ sym (gate_put front gate is tail reads2 h.1.0 (all2 reads2 now2))) ∙ h.1.1))

-- a stop while a block is added shows what showed before, or the tables with the block
pub during_shows : (images : List ℕ → Type 0) (reads front tail block staged : List ℕ) (gate n : ℕ) (u : Bool) (m new : Tables) (t : Option Tables) → gate ≡ length front → Leads front n m → Leads (front ++ 1 ∷ block) (n + 1) new → staged ≡ block ++ 0 ∷ []
    → images reads → Rests u front tail reads → (c : List ℕ) → MayShow u front tail staged c → shown c ≡ t → Shows images reads gate u t ⊎ (t ≡ Some new)
during_shows images reads front tail block staged gate n u m new t is leads more made now here c (inl rests) e = inl (rests_shows images reads front tail gate n u m t is leads now here c rests e)
during_shows images reads front tail block staged gate n u m new t is leads more made now here c (inr (inl stands)) e =
    let P : Option Tables → Type 0 = λ x. Shows images reads gate u x in
    inl (subst P (sym (stands_shows front n m t c leads stands e)) (before_shows images reads front tail gate n u m is leads now here))
during_shows images reads front tail block staged gate n u m new t is leads more made now here c (inr (inr h)) e =
    let P : Option Tables → Type 0 = λ x. Shows images reads gate u x in
    let whole : c ≡ front ++ h.1.0 ∷ (block ++ 0 ∷ h.0) = h.1.1 ∙ ap (λ (l : List ℕ). front ++ h.1.0 ∷ (l ++ h.0)) made ∙ ap (λ (l : List ℕ). front ++ h.1.0 ∷ l) (append_assoc block (0 ∷ []) h.0) in
    ⊎_elim (λ old. inl (subst P (sym old) (before_shows images reads front tail gate n u m is leads now here))) (λ one. inr one) (block_shows front block h.0 h.1.0 n m new t c leads more whole e)
