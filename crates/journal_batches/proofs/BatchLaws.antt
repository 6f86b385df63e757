-- What a commit leaves, by its answer.
use Rattle.std.proofs.Common.{◌≡◌, ◌⊎◌, inl, inr, ⊎_elim, ℕ, ◌+◌, ◌≤◌, ◌<◌, ◌^◌, Bool, true, false, IsTrue, List, [], ◌∷◌, ◌++◌, length, Option, Some, Result, Ok, Err, refl, sym, ap, subst, ◌∙◌, append_assoc, arith, length-append}
use Rattle.vec_base.specs.declared.shadow.Change.{Change}
use Rattle.shadow_records.specs.Keys.{Tables}
use Rattle.shadow_records.specs.Batches.{applied, AllApply}
use Rattle.std.specs.Prelude.{⊤}
use Rattle.shadow_keeper.specs.Keeping.{Makes, LeftAfter}
use Rattle.shadow_keeper.specs.declared.keeper.Kept.TheVariants as kept
use Rattle.journal_format.specs.Format.{block, body_bytes, AreWhole}
use Rattle.journal_format.specs.Reading.{shown}
use Rattle.journal_format.specs.Fronts.{Leads}
use Rattle.journal_writes.specs.Moments.{LeavesOnly, AllAre}
use Rattle.journal_writes.specs.Gates.{Stands, Gated, Rests, MayShow, AddedAs}
use Rattle.journal_writes.specs.declared.adding.Added.{Added}
use Rattle.journal_writes.specs.declared.adding.Added.TheVariants as added
use Rattle.journal_batches.specs.Places.{place_after, kept_after}
use Rattle.journal_batches.specs.declared.places.Place.{Place}
use Rattle.journal_batches.specs.Stopping.{tables_up_to, Shows, ShowsSince, IsKept}
use Rattle.journal_format.proofs.GateLaws.{leads_more}
use Rattle.journal_batches.proofs.ShowingLaws.{kept_is, before_shows, closed_shows, open_shows, still_shows, during_shows}

-- a batch that is added to a journal
pub record Adds (images : List ℕ → Type 0) (reads : List ℕ) (gate n : ℕ) (u : Bool) (cs : List Change) (staged : List ℕ) : Type 0 where
  pub stands : IsKept images gate n u
  pub now : images reads
  pub made : staged ≡ block n cs ++ 0 ∷ []
  pub is : tables_up_to reads gate ≡ stands.tables
  pub after : Leads (stands.front ++ 1 ∷ block n cs) (n + 1) (applied cs (tables_up_to reads gate))

pub adds_of : (images : List ℕ → Type 0) (reads : List ℕ) (gate n : ℕ) (u : Bool) (cs : List Change) (staged : List ℕ) → IsKept images gate n u → images reads → staged ≡ block n cs ++ 0 ∷ [] → length (body_bytes n cs) < 2 ^ 64 → n < 2 ^ 64 → AreWhole cs → AllApply cs (tables_up_to reads gate)
    → Adds images reads gate n u cs staged
adds_of images reads gate n u cs staged k now made short small whole fit =
    let is = kept_is images reads gate n u k now in
    let P : Tables → Type 0 = λ t. Leads k.front n t in
    record {
      stands = k;
      now = now;
      made = made;
      is = is;
      after = leads_more k.front n (tables_up_to reads gate) cs (subst P (sym is) k.leads) small short whole fit;
    }

module _ (images : List ℕ → Type 0) (reads : List ℕ) (gate n : ℕ) (u : Bool) (cs : List Change) (staged : List ℕ) (a : Adds images reads gate n u cs staged) (images2 : List ℕ → Type 0) (reads2 : List ℕ) (now2 : images2 reads2) where
  before : Shows images reads gate u (Some (tables_up_to reads gate))
  before =
      let P : Tables → Type 0 = λ t. Shows images reads gate u (Some t) in
      subst P (sym a.is) (before_shows images reads a.stands.front a.stands.tail gate n u a.stands.tables a.stands.place a.stands.leads a.now (a.stands.rests reads a.now))

  -- ---- the closing failed

  pub closing_kept : AllAre (Rests u a.stands.front a.stands.tail) images2 → IsKept images2 gate n u
  closing_kept all = record { front = a.stands.front; tail = a.stands.tail; tables = a.stands.tables; place = a.stands.place; leads = a.stands.leads; rests = all; attempt = a.stands.attempt }

  pub closing_tables : AllAre (Rests u a.stands.front a.stands.tail) images2 → tables_up_to reads2 gate ≡ tables_up_to reads gate
  unfolding closing_kept
  closing_tables all = kept_is images2 reads2 gate n u (closing_kept all) now2 ∙ sym a.is

  pub closing_shows : AllAre (Rests u a.stands.front a.stands.tail) images2 → (t : Option Tables) → Shows images2 reads2 gate u t → Shows images reads gate u t
  closing_shows all t h = still_shows images images2 reads reads2 a.stands.front a.stands.tail gate n u a.stands.tables t a.stands.place a.stands.leads a.now now2 a.stands.rests all h

  -- ---- the block could not be written

  pub staging_kept : AllAre (Stands a.stands.front) images2 → IsKept images2 gate n false
  staging_kept all = record { front = a.stands.front; tail = []; tables = a.stands.tables; place = a.stands.place; leads = a.stands.leads; rests = all; attempt = λ e. absurd (no_truth e) }
    where
      no_truth : IsTrue false → ⊥
      no_truth e = cc

  pub staging_tables : AllAre (Stands a.stands.front) images2 → tables_up_to reads2 gate ≡ tables_up_to reads gate
  unfolding staging_kept
  staging_tables all = kept_is images2 reads2 gate n false (staging_kept all) now2 ∙ sym a.is

  pub staging_shows : AllAre (Stands a.stands.front) images2 → (t : Option Tables) → Shows images2 reads2 gate false t → Shows images reads gate u t
  staging_shows all t h =
      let P : Option Tables → Type 0 = λ x. Shows images reads gate u x in
      subst P (ap (λ (m : Tables). Some m) a.is ∙ sym (closed_shows images2 reads2 a.stands.front gate n false a.stands.tables t refl a.stands.leads all h)) before

  -- ---- the gate may be open or not

  tail_is : (rest : List ℕ) → staged ++ rest ≡ block n cs ++ 0 ∷ rest
  tail_is rest = ap (λ (l : List ℕ). l ++ rest) a.made ∙ append_assoc (block n cs) (0 ∷ []) rest

  pub opening_kept : (rest : List ℕ) → AllAre (Gated a.stands.front (staged ++ rest)) images2 → IsKept images2 gate n true
  opening_kept rest all = record {
    front = a.stands.front;
    tail = staged ++ rest;
    tables = a.stands.tables;
    place = a.stands.place;
    leads = a.stands.leads;
    rests = all;
    attempt = λ _. record { block = block n cs; rest = rest; tables = applied cs (tables_up_to reads gate); parts = tail_is rest; leads = a.after };
  }

  pub opening_tables : (rest : List ℕ) → AllAre (Gated a.stands.front (staged ++ rest)) images2 → tables_up_to reads2 gate ≡ tables_up_to reads gate
  unfolding opening_kept
  opening_tables rest all = kept_is images2 reads2 gate n true (opening_kept rest all) now2 ∙ sym a.is

  pub opening_shows : (rest : List ℕ) → AllAre (Gated a.stands.front (staged ++ rest)) images2 → (t : Option Tables) → Shows images2 reads2 gate true t → (t ≡ Some (tables_up_to reads gate)) ⊎ (t ≡ Some (applied cs (tables_up_to reads gate)))
  opening_shows rest all t h =
      let P : List ℕ → Type 0 = λ l. AllAre (Gated a.stands.front l) images2 in
      let Q : Tables → Type 0 = λ x. Leads a.stands.front n x in
      open_shows images2 reads2 a.stands.front (block n cs) rest gate n true (tables_up_to reads gate) (applied cs (tables_up_to reads gate)) t a.stands.place (subst Q (sym a.is) a.stands.leads) a.after (subst P (tail_is rest) all) now2 h

  pub opening_weak : (rest : List ℕ) → AllAre (Gated a.stands.front (staged ++ rest)) images2 → (t : Option Tables) → Shows images2 reads2 gate true t → Shows images reads gate u t ⊎ (t ≡ Some (applied cs (tables_up_to reads gate)))
  opening_weak rest all t h =
      let P : Option Tables → Type 0 = λ x. Shows images reads gate u x in
      ⊎_elim (λ old. inl (subst P (sym old) before)) (λ one. inr one) (opening_shows rest all t h)

  -- ---- done

  pub done_kept : AllAre (Stands (a.stands.front ++ 1 ∷ block n cs)) images2 → IsKept images2 (gate + length staged) (n + 1) false
  done_kept all = record {
    front = a.stands.front ++ 1 ∷ block n cs;
    tail = [];
    tables = applied cs (tables_up_to reads gate);
    place = omega (arith, a.stands.place, ap length a.made, length-append (block n cs) (0 ∷ []), length-append a.stands.front (1 ∷ block n cs));
    leads = a.after;
    rests = all;
    attempt = λ e. absurd (no_truth e);
  }
    where
      no_truth : IsTrue false → ⊥
      no_truth e = cc

  pub done_tables : AllAre (Stands (a.stands.front ++ 1 ∷ block n cs)) images2 → tables_up_to reads2 (gate + length staged) ≡ applied cs (tables_up_to reads gate)
  unfolding done_kept
  done_tables all = kept_is images2 reads2 (gate + length staged) (n + 1) false (done_kept all) now2

  pub done_shows : AllAre (Stands (a.stands.front ++ 1 ∷ block n cs)) images2 → (t : Option Tables) → Shows images2 reads2 (gate + length staged) false t → t ≡ Some (applied cs (tables_up_to reads gate))
  done_shows all t h = closed_shows images2 reads2 (a.stands.front ++ 1 ∷ block n cs) (gate + length staged) (n + 1) false (applied cs (tables_up_to reads gate)) t refl a.after all h

-- ---- by the answer

pub after_gate : (place : Place) (len : ℕ) (r : Added) → place.gate ≤ 2 ^ 40 → AddedAs (place.gate + 1 + len ≤ 2 ^ 40) ⊤ ⊤ ⊤ r → (place_after place len r).gate ≤ 2 ^ 40
after_gate place len added.Done fits end = omega (arith, end)
after_gate place len added.Closing fits end = fits
after_gate place len added.Staging fits end = fits
after_gate place len added.Opening fits end = fits

pub after_number : (place : Place) (len : ℕ) (r : Added) → 0 < len → place.number ≤ place.gate → (place_after place len r).number ≤ (place_after place len r).gate
after_number place len added.Done some fits = omega (arith, some, fits)
after_number place len added.Closing some fits = fits
after_number place len added.Staging some fits = fits
after_number place len added.Opening some fits = fits

pub after_failed : (r : Added) (R : Type 0) → AddedAs ⊤ R R R r → kept_after r ≡ kept.Failed → R
after_failed added.Done R rose e = absurd cc
after_failed added.Closing R rose e = rose
after_failed added.Staging R rose e = rose
after_failed added.Opening R rose e = rose

module _ (files : List ℕ → Type 0) (reads : List ℕ) (place : Place) (cs : List Change) (staged : List ℕ) (a : Adds files reads place.gate place.number place.uncertain cs staged) (files2 : List ℕ → Type 0) (reads2 : List ℕ) (now2 : files2 reads2) where
  abbrev made : Tables
  made = applied cs (tables_up_to reads place.gate)

  -- what is known after each answer
  abbrev pub Left : Added → Type 0
  Left r = AddedAs (AllAre (Stands (a.stands.front ++ 1 ∷ block place.number cs)) files2) (AllAre (Rests place.uncertain a.stands.front a.stands.tail) files2 × IsTrue place.uncertain)
      (AllAre (Stands a.stands.front) files2) ((rest : List ℕ) × AllAre (Gated a.stands.front (staged ++ rest)) files2) r

  pub after_stands : (r : Added) → Left r → IsKept files2 (place_after place (length staged) r).gate (place_after place (length staged) r).number (place_after place (length staged) r).uncertain
  after_stands added.Done all = done_kept files reads place.gate place.number place.uncertain cs staged a files2 reads2 now2 all
  after_stands added.Closing all = closing_kept files reads place.gate place.number place.uncertain cs staged a files2 reads2 now2 all.0
  after_stands added.Staging all = staging_kept files reads place.gate place.number place.uncertain cs staged a files2 reads2 now2 all
  after_stands added.Opening all = opening_kept files reads place.gate place.number place.uncertain cs staged a files2 reads2 now2 all.0 all.1

  pub after_makes : (r : Added) → Left r → Makes (tables_up_to reads place.gate) made (tables_up_to reads2 (place_after place (length staged) r).gate) (kept_after r)
  after_makes added.Done all = done_tables files reads place.gate place.number place.uncertain cs staged a files2 reads2 now2 all
  after_makes added.Closing all = closing_tables files reads place.gate place.number place.uncertain cs staged a files2 reads2 now2 all.0
  after_makes added.Staging all = staging_tables files reads place.gate place.number place.uncertain cs staged a files2 reads2 now2 all
  after_makes added.Opening all = opening_tables files reads place.gate place.number place.uncertain cs staged a files2 reads2 now2 all.0 all.1

  abbrev Before : Option Tables → Type 0
  Before left = Shows files reads place.gate place.uncertain left

  abbrev After : Added → Option Tables → Type 0
  After r left = Shows files2 reads2 (place_after place (length staged) r).gate (place_after place (length staged) r).uncertain left

  pub after_left : (r : Added) → Left r → LeftAfter Before (tables_up_to reads place.gate) made (After r) (kept_after r)
  after_left added.Done all = λ left shows. done_shows files reads place.gate place.number place.uncertain cs staged a files2 reads2 now2 all left shows
  after_left added.Closing all = inl (λ left shows. closing_shows files reads place.gate place.number place.uncertain cs staged a files2 reads2 now2 all.0 left shows)
  after_left added.Staging all = inl (λ left shows. staging_shows files reads place.gate place.number place.uncertain cs staged a files2 reads2 now2 all left shows)
  after_left added.Opening all = inr (λ left shows. opening_shows files reads place.gate place.number place.uncertain cs staged a files2 reads2 now2 all.0 all.1 left shows)

  pub after_weak : (r : Added) → Left r → (left : Option Tables) → After r left → Before left ⊎ (left ≡ Some made)
  after_weak added.Done all left shows = inr (done_shows files reads place.gate place.number place.uncertain cs staged a files2 reads2 now2 all left shows)
  after_weak added.Closing all left shows = inl (closing_shows files reads place.gate place.number place.uncertain cs staged a files2 reads2 now2 all.0 left shows)
  after_weak added.Staging all left shows = inl (staging_shows files reads place.gate place.number place.uncertain cs staged a files2 reads2 now2 all left shows)
  after_weak added.Opening all left shows = opening_weak files reads place.gate place.number place.uncertain cs staged a files2 reads2 now2 all.0 all.1 left shows

  -- at any moment
  pub after_during : {D : Type 0} (moment : D → ℕ) (left_since : D → ℕ → List ℕ → Type 0) (old new : D) (r : Added) → Left r
      → LeavesOnly moment left_since old new (MayShow place.uncertain a.stands.front a.stands.tail staged)
      → (t : ℕ) (left : Option Tables) → t ≤ moment old
      → ShowsSince (left_since new) files2 reads2 (place_after place (length staged) r).gate (place_after place (length staged) r).uncertain t left
      → ShowsSince (left_since old) files reads place.gate place.uncertain t left ⊎ (Before left ⊎ (left ≡ Some made))
  after_during moment left_since old new r all during t left le since = ⊎_elim
      (λ (h : (c : List ℕ) × left_since new t c × (shown c ≡ left)).
      ⊎_elim (λ was. inl (inl (h.0, was, h.2))) (λ may. inr (shows h.0 may h.2)) (during.before t h.0 le h.1))
      (λ now. inr (after_weak r all left now)) since
    where
      shows : (c : List ℕ) → MayShow place.uncertain a.stands.front a.stands.tail staged c → shown c ≡ left → Before left ⊎ (left ≡ Some made)
      shows c may e =
          let P : Tables → Type 0 = λ x. Leads a.stands.front place.number x in
          during_shows files reads a.stands.front a.stands.tail (block place.number cs) staged place.gate place.number place.uncertain (tables_up_to reads place.gate) made left a.stands.place (subst P (sym a.is) a.stands.leads) a.after a.made a.now (a.stands.rests reads a.now) c may e
