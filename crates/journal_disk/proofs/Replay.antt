-- One event more.
use Rattle.std.proofs.Common.{◌≡◌, inl, inr, ⊎_elim, ℕ, suc, ◌-◌, ◌≤◌, List, [], ◌∷◌, ◌++◌, length, Bool, true, false, if◌then◌else◌, refl, sym, ◌∙◌, ap, subst, arith, length-append}
use Rattle.std.proofs.lemmas.List.{take_at, drop_at, reverse-append, length-reverse}
use Rattle.journal_disk.specs.Disk.{Torn, Follows, Elapses, Only}
use Rattle.journal_disk.specs.declared.memory.Event.{Event}
use Rattle.journal_disk.specs.declared.memory.Event.TheVariants.{Write, Sync}
use Rattle.journal_disk.specs.History.{put, events_of, earlier, newest, replayed, Images, Since, log_before, images_replayed}
use Rattle.journal_disk.proofs.Torn.{torn_same, torn_wider, put_torn}

pub events-push : (kept : List Event) (e : Event) → events_of (kept ++ e ∷ []) ≡ e ∷ events_of kept
events-push kept e = reverse-append kept (e ∷ [])

earlier-push : (log piece : List ℕ) → earlier (length piece) (log ++ piece) ≡ log
earlier-push log piece = take_at log piece (length (log ++ piece) - length piece) (omega (arith, length-append log piece))

newest-push : (log piece : List ℕ) → newest (length piece) (log ++ piece) ≡ piece
newest-push log piece = drop_at log piece (length (log ++ piece) - length piece) (omega (arith, length-append log piece))

module _ (base : List ℕ) (kept : List Event) (log : List ℕ) where
  abbrev wrote : ℕ → List ℕ → List Event
  wrote at piece = (Write at (length piece)) ∷ events_of kept

  replayed_wrote : (at : ℕ) (piece : List ℕ) → replayed base (wrote at piece) (log ++ piece) ≡ put (replayed base (events_of kept) log) at piece
  replayed_wrote at piece =
      let there : replayed base (events_of kept) (earlier (length piece) (log ++ piece)) ≡ replayed base (events_of kept) log = ap (replayed base (events_of kept)) (earlier-push log piece) in
      ap (λ (l : List ℕ). put l at (newest (length piece) (log ++ piece))) there ∙ ap (λ (p : List ℕ). put (replayed base (events_of kept) log) at p) (newest-push log piece)

  pub replays_write : (at : ℕ) (piece bytes : List ℕ) → bytes ≡ replayed base (events_of kept) log → put bytes at piece ≡ replayed base (events_of (kept ++ (Write at (length piece)) ∷ [])) (log ++ piece)
  replays_write at piece bytes same =
      ap (λ (l : List ℕ). put l at piece) same ∙ sym (replayed_wrote at piece) ∙ ap (λ (es : List Event). replayed base es (log ++ piece)) (sym (events-push kept (Write at (length piece))))

  images_wrote : (at : ℕ) (piece bytes : List ℕ) → bytes ≡ replayed base (events_of kept) log → at ≤ length bytes
      → Follows (Torn at (length piece)) (Images base (events_of kept) log) (Images base (wrote at piece) (log ++ piece))
  images_wrote at piece bytes same le c (inl is) =
      let now : c ≡ put bytes at piece = is ∙ replayed_wrote at piece ∙ ap (λ (l : List ℕ). put l at piece) (sym same) in (
        bytes,
        let P : List ℕ → Type 0 = Images base (events_of kept) log in subst P (sym same) (images_replayed base (events_of kept) log),
        let P : List ℕ → Type 0 = Torn at (length piece) bytes in subst P (sym now) (put_torn bytes at piece le),
      )
  images_wrote at piece bytes same le c (inr from) =
      (from.0, (let P : List ℕ → Type 0 = λ l. Images base (events_of kept) l from.0 in subst P (earlier-push log piece) from.1), from.2)

  pub images_write : (at : ℕ) (piece bytes : List ℕ) → bytes ≡ replayed base (events_of kept) log → at ≤ length bytes
      → Follows (Torn at (length piece)) (Images base (events_of kept) log) (Images base (events_of (kept ++ (Write at (length piece)) ∷ [])) (log ++ piece))
  images_write at piece bytes same le =
      let P : List Event → Type 0 = λ es. Follows (Torn at (length piece)) (Images base (events_of kept) log) (Images base es (log ++ piece)) in
      subst P (sym (events-push kept (Write at (length piece)))) (images_wrote at piece bytes same le)

  pub images_sync : (bytes : List ℕ) → bytes ≡ replayed base (events_of kept) log → Only bytes (Images base (events_of (kept ++ Sync ∷ [])) log)
  images_sync bytes same =
      let P : List Event → Type 0 = λ es. Only bytes (Images base es log) in
      subst P (sym (events-push kept Sync)) (λ c is. is ∙ sym same)

  -- an event more, whose log before it was this one
  elapsed : (e : Event) (after : List ℕ) → log_before e after ≡ log
      → Elapses (length kept) (suc (length kept)) (λ t c. Since t base (events_of kept) log c) (λ t c. Since t base (e ∷ events_of kept) after c) (Images base (e ∷ events_of kept) after)
  elapsed e after is = record {
    later = omega arith;
    nothing_else = λ t c le left. ⊎_elim (λ now. inr now) (λ had. inl (let P : List ℕ → Type 0 = λ l. Since t base (events_of kept) l c in subst P is had.1)) left;
    keeps = λ t c le left. inr ((let same = length-reverse kept in omega arith), (let P : List ℕ → Type 0 = λ l. Since t base (events_of kept) l c in subst P (sym is) left));
  }

  elapses : (e : Event) (after : List ℕ) → log_before e after ≡ log
      → Elapses (length kept) (length (kept ++ e ∷ [])) (λ t c. Since t base (events_of kept) log c) (λ t c. Since t base (events_of (kept ++ e ∷ [])) after c) (Images base (events_of (kept ++ e ∷ [])) after)
  elapses e after is =
      let P : List Event → Type 0 = λ es. Elapses (length kept) (length (kept ++ e ∷ [])) (λ t c. Since t base (events_of kept) log c) (λ t c. Since t base es after c) (Images base es after) in
      let Q : ℕ → Type 0 = λ n. Elapses (length kept) n (λ t c. Since t base (events_of kept) log c) (λ t c. Since t base (e ∷ events_of kept) after c) (Images base (e ∷ events_of kept) after) in
      let long : suc (length kept) ≡ length (kept ++ e ∷ []) = omega (arith, length-append kept (e ∷ [])) in
      subst P (sym (events-push kept e)) (subst Q long (elapsed e after is))

  pub elapses_write : (at : ℕ) (piece : List ℕ)
      → Elapses (length kept) (length (kept ++ (Write at (length piece)) ∷ [])) (λ t c. Since t base (events_of kept) log c) (λ t c. Since t base (events_of (kept ++ (Write at (length piece)) ∷ [])) (log ++ piece) c) (Images base (events_of (kept ++ (Write at (length piece)) ∷ [])) (log ++ piece))
  elapses_write at piece = elapses (Write at (length piece)) (log ++ piece) (earlier-push log piece)

  pub elapses_sync : Elapses (length kept) (length (kept ++ Sync ∷ [])) (λ t c. Since t base (events_of kept) log c) (λ t c. Since t base (events_of (kept ++ Sync ∷ [])) log c) (Images base (events_of (kept ++ Sync ∷ [])) log)
  elapses_sync = elapses Sync log refl

  pub elapses_none : Elapses (length kept) (length kept) (λ t c. Since t base (events_of kept) log c) (λ t c. Since t base (events_of kept) log c) (Images base (events_of kept) log)
  elapses_none = record { later = omega arith; nothing_else = λ t c le left. inl left; keeps = λ t c le left. left }

pub sync_within : (base : List ℕ) (kept new : List Event) (log bytes : List ℕ) → bytes ≡ replayed base (events_of kept) log → new ≡ kept ++ Sync ∷ [] → (c : List ℕ) → Images base (events_of new) log c → Images base (events_of kept) log c
sync_within base kept new log bytes same is c left =
    let P : List Event → Type 0 = λ es. Images base (events_of es) log c in
    let Q : List ℕ → Type 0 = Images base (events_of kept) log in
    let only : c ≡ bytes = images_sync base kept log bytes same c (subst P is left) in
    subst Q (sym (only ∙ same)) (images_replayed base (events_of kept) log)

pub write_torn : (base : List ℕ) (kept new : List Event) (log after bytes : List ℕ) (at : ℕ) (piece : List ℕ) (n : ℕ) → bytes ≡ replayed base (events_of kept) log → at ≤ length bytes → length piece ≤ n
    → new ≡ kept ++ (Write at (length piece)) ∷ [] → after ≡ log ++ piece → Follows (Torn at n) (Images base (events_of kept) log) (Images base (events_of new) after)
write_torn base kept new log after bytes at piece n same le short is logged c left =
    let P : List Event → Type 0 = λ es. Images base (events_of es) after c in
    let Q : List ℕ → Type 0 = λ l. Images base (events_of (kept ++ (Write at (length piece)) ∷ [])) l c in
    let from = images_write base kept log at piece bytes same le c (subst Q logged (subst P is left)) in
    (from.0, from.1, torn_wider at (length piece) at n from.0 c (omega arith) (omega arith) from.2)

pub none_torn : (base : List ℕ) (kept new : List Event) (log after : List ℕ) (at n : ℕ) → new ≡ kept → after ≡ log → Follows (Torn at n) (Images base (events_of kept) log) (Images base (events_of new) after)
none_torn base kept new log after at n is logged c left =
    let P : List Event → Type 0 = λ es. Images base (events_of es) after c in
    let Q : List ℕ → Type 0 = λ l. Images base (events_of kept) l c in
    (c, subst Q logged (subst P is left), torn_same at n c)

pub either_torn : (r : Bool) (base : List ℕ) (kept new : List Event) (log after bytes : List ℕ) (at : ℕ) (piece : List ℕ) (n : ℕ) → bytes ≡ replayed base (events_of kept) log → at ≤ length bytes → length piece ≤ n
    → new ≡ (if r then kept ++ (Write at (length piece)) ∷ [] else kept) → after ≡ (if r then log ++ piece else log) → Follows (Torn at n) (Images base (events_of kept) log) (Images base (events_of new) after)
either_torn true base kept new log after bytes at piece n same le short is logged = write_torn base kept new log after bytes at piece n same le short is logged
either_torn false base kept new log after bytes at piece n same le short is logged = none_torn base kept new log after at n is logged
