-- A piece of a file, and what stands in it.
use Rattle.std.proofs.Common.{◌≡◌, ◌≢◌, ℕ, ◌+◌, ◌-◌, ◌≤◌, ◌<◌, List, ◌++◌, length, get_or, take, drop, None, Ok, Err, sym, ap, subst, ◌∙◌, arith, take-append-drop, length-drop}
use Rattle.std.proofs.Math.Seq.{take-add}
use Rattle.std.proofs.lemmas.List.{append-nil, take_all, drop_all, take-append-le, drop-append-le, drop-drop, get_or-drop, get_or_append_left}
use Rattle.shadow_records.specs.Keys.{Tables}
use Rattle.journal_format.specs.Fronts.{Leads}
use Rattle.journal_format.specs.Reading.{batch_at, commits_of, tables_of}
use Rattle.journal_format.proofs.GateLaws.{read_shut, read_damaged}
use Rattle.journal_tables.specs.Making.{GoesOn, StopsAt}
use Rattle.journal_tables.specs.declared.blocks.Stop.TheVariants as stop

-- a vector whose items were all written over
pub refilled : (old new : List ℕ) (n : ℕ) → n ≡ length old → length new ≡ length old → take n (new ++ drop (length new) old) ≡ new
refilled old new n long same =
    ap (λ (l : List ℕ). take n (new ++ l)) (drop_all (length new) old (omega (arith, same))) ∙ ap (λ (l : List ℕ). take n l) (append-nil new) ∙ take_all n new (omega (arith, same, long))

module _ (file room : List ℕ) (gate : ℕ) (within : gate + length room ≤ length file) (is : room ≡ take (length room) (drop gate file)) where
  abbrev behind : List ℕ
  behind = drop (length room) (drop gate file)

  rest_is : drop gate file ≡ room ++ behind
  rest_is = sym (take-append-drop (length room) (drop gate file)) ∙ ap (λ (l : List ℕ). l ++ drop (length room) (drop gate file)) (sym is)

  front_is : (at : ℕ) → at ≤ length room → take (gate + at) file ≡ take gate file ++ take at room
  front_is at le = take-add gate at file ∙ ap (λ (l : List ℕ). take gate file ++ take at l) rest_is ∙ ap (λ (l : List ℕ). take gate file ++ l) (take-append-le at room behind le)

  gate_is : (at : ℕ) → at < length room → get_or file (gate + at) 0 ≡ get_or room at 0
  gate_is at lt = sym (get_or-drop gate file at 0) ∙ ap (λ (l : List ℕ). get_or l at 0) rest_is ∙ get_or_append_left room behind 0 at lt

  back_is : (at : ℕ) → at < length room → drop (gate + at + 1) file ≡ drop (at + 1) room ++ behind
  back_is at lt =
      let there : gate + (at + 1) ≡ gate + at + 1 = omega arith in
      ap (λ (k : ℕ). drop k file) (sym there) ∙ sym (drop-drop (at + 1) gate file) ∙ ap (λ (l : List ℕ). drop (at + 1) l) rest_is ∙ drop-append-le (at + 1) room behind (omega arith)

  module _ (n : ℕ) (old : Tables) (leads : Leads (take gate file) n old) (at m : ℕ) (new : Tables) (lt : at < length room) where
    leads_on : (tables : Tables) → GoesOn (take at room) n old m tables → Leads (take (gate + at) file) m tables
    leads_on tables on = let P : List ℕ → Type 0 = λ l. Leads l m tables in subst P (sym (front_is at (omega arith))) (on (take gate file) leads)

    pub closed_leads : StopsAt room n old at m new stop.Closed → Leads (take (gate + at) file) m new
    closed_leads stops = leads_on new stops.1

    pub closed_gate : StopsAt room n old at m new stop.Closed → get_or file (gate + at) 0 ≢ 1
    closed_gate stops e = stops.0 (sym (gate_is at lt) ∙ e)

    pub closed_tables : StopsAt room n old at m new stop.Closed → tables_of file ≡ Ok new
    closed_tables stops = read_shut file (gate + at) m new (closed_leads stops) (omega arith) (closed_gate stops)

    pub damaged : 17 < length file → StopsAt room n old at m new stop.Damaged → commits_of file ≡ Err (gate + at)
    damaged long stops =
        let tables = stops.1.0 in
        read_damaged file (gate + at) m tables (leads_on tables stops.1.1) (omega arith) long (gate_is at lt ∙ stops.0) (ap (λ (l : List ℕ). batch_at l m tables) (back_is at lt) ∙ stops.1.2 behind)

    pub short_leads : (needed : ℕ) → StopsAt room n old at m new (stop.Short needed) → Leads (take (gate + at) file) m new
    short_leads needed stops = leads_on new stops.1

    -- where the file holds fewer bytes than are needed, it is damaged there
    pub short : (needed : ℕ) → 17 < length file → StopsAt room n old at m new (stop.Short needed) → length file - (gate + at) < needed + 1 → commits_of file ≡ Err (gate + at)
    short needed long stops few =
        let size : length (drop (gate + at + 1) file) ≡ length file - (gate + at + 1) = length-drop (gate + at + 1) file in
        let none = stops.3 behind (omega (arith, size, ap length (back_is at lt), few)) in
        read_damaged file (gate + at) m new (short_leads needed stops) (omega arith) long (gate_is at lt ∙ stops.0) (ap (λ (l : List ℕ). batch_at l m new) (back_is at lt) ∙ none)
