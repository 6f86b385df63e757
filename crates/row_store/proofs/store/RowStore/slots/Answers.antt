use Rattle.std.proofs.Common.{◌≡◌, ℕ, length, sym, ap, ◌∙◌}
use Rattle.std.specs.Prelude.{is_some}
use Rattle.std.specs.Option.{option_map}
use Rattle.row_chunks.specs.RowSlots.{slot_at}
use Rattle.row_store.specs.Shown.{held_of}
use Rattle.row_store.specs.StoredRows.{row_at, first_in}
use Rattle.row_store.proofs.ReadLaws.{slots-shape, slots-first, slot-of_seen, held-at, if_slots, copied-some}
use Rattle.row_store.proofs.store.RowStore.slots.Goals as goal

pub returns-clause-there : goal.returns-clause-there
returns-clause-there c =
    let store = c.self.inside in
    let rows = store.rows in
    sym (copied-some c.slots.result) ∙ ap is_some c.slots.ensures
    ∙ slots-first rows.parts rows.places rows.index rows.claim store.shape c.self.invariant.tied c.known.ensures.rising c.self.invariant.shapes c.args.chunk
    ∙ ap (λ s. is_some (first_in s.rows c.args.chunk)) c.self.view_is

pub returns-clause-slots : goal.returns-clause-slots
returns-clause-slots c =
    let rows = c.self.inside.rows in
    if_slots (λ slots. (slot : ℕ) → slot_at slots slot ≡ option_map held_of (row_at c.args.self.now.rows c.args.chunk slot)) c.slots.result (λ x is slot.
    sym (slot-of_seen rows.parts c.args.chunk slot x (sym c.slots.ensures ∙ is))
    ∙ held-at rows.parts rows.places rows.index rows.claim c.self.invariant.tied c.known.ensures.rising c.args.chunk slot
    ∙ ap (λ s. option_map held_of (row_at s.rows c.args.chunk slot)) c.self.view_is)

pub returns-clause-size : goal.returns-clause-size
returns-clause-size c =
    let store = c.self.inside in
    if_slots (λ slots. length slots.slots ≡ c.args.self.now.size) c.slots.result (λ x is.
    (slots-shape store.shape store.rows.parts c.args.chunk x c.self.invariant.shapes (sym c.slots.ensures ∙ is)).long ∙ ap (λ s. s.size) c.self.view_is)

pub returns-clause-widths : goal.returns-clause-widths
returns-clause-widths c =
    let store = c.self.inside in
    if_slots (λ slots. slots.widths ≡ c.args.self.now.widths) c.slots.result (λ x is.
    (slots-shape store.shape store.rows.parts c.args.chunk x c.self.invariant.shapes (sym c.slots.ensures ∙ is)).wide ∙ ap (λ s. s.widths) c.self.view_is)

pub returns-clause-kinds : goal.returns-clause-kinds
returns-clause-kinds c =
    let store = c.self.inside in
    if_slots (λ slots. slots.kinds ≡ c.args.self.now.kinds) c.slots.result (λ x is.
    (slots-shape store.shape store.rows.parts c.args.chunk x c.self.invariant.shapes (sym c.slots.ensures ∙ is)).celled ∙ ap (λ s. s.kinds) c.self.view_is)
