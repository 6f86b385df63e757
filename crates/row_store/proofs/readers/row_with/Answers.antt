use Rattle.std.proofs.Common.{◌≡◌, ℤ, sym, ap, ◌∙◌, rules, SFits, w64, Some, None}
use Rattle.std.specs.Prelude.{is_some}
use Rattle.std.specs.Option.{option_map, option_copied}
use Rattle.std.proofs.lemmas.Int.{to_z-of_z}
use Rattle.row_index.specs.Entries.{place_of, id_of}
use Rattle.slot_alloc.specs.Places.{partition_of_chunk}
use Rattle.row_store.specs.Shown.{shown}
use Rattle.row_store.specs.inner.Parts.{slots_of}
use Rattle.row_store.proofs.ReadLaws.{row-nowhere, row-claimed, row-there, slot-of_seen, never_valued, never_seen, row-shown, same_some}
use Rattle.row_store.proofs.readers.row_with.Goals as goal

pub returns-in_err-chunk-clause-row : goal.returns-in_err-chunk-clause-row
returns-in_err-chunk-clause-row c =
    let rows = c.args.rows.now in
    let i = c.args.rowid.now in
    let fits : SFits w64 i = search rules in
    let same = to_z-of_z w64 i fits in
    let none : place_of i rows.index ≡ None = ap (λ (j : ℤ). place_of j rows.index) (sym same) ∙ sym c.in_err-chunk.ensures in
    row-nowhere rows.parts rows.places rows.index rows.claim c.requires.tied c.known.ensures.rising i none ∙ sym (ap (option_map (shown i)) c.from_residual.ensures)

pub returns-then-is_claimed-clause-row : goal.returns-then-is_claimed-clause-row
returns-then-is_claimed-clause-row c =
    let rows = c.args.rows.now in
    row-claimed rows.parts rows.places rows.index rows.claim c.requires.tied c.known.ensures.rising c.args.rowid.now (sym c.is_claimed.ensures ∙ c.if-is_claimed.true)

pub returns-in_err-partition-clause-row : goal.returns-in_err-partition-clause-row
returns-in_err-partition-clause-row c =
    let rows = c.args.rows.now in
    let i = c.args.rowid.now in
    let fits : SFits w64 i = search rules in
    let same = to_z-of_z w64 i fits in
    let placed : place_of i rows.index ≡ Some (c.in_ok-chunk.chunk, c.in_ok-chunk.slot) = ap (λ (j : ℤ). place_of j rows.index) (sym same) ∙ sym c.in_ok-chunk.ensures in
    let it = row-there rows.parts rows.places rows.index rows.claim c.requires.tied c.known.ensures.rising i c.in_ok-chunk.chunk c.in_ok-chunk.slot placed (sym c.is_claimed.ensures ∙ c.if-is_claimed.false) in
    absurd (never_valued rows.places c.in_ok-chunk.chunk it.values it.valued (sym c.partition.ensures ∙ ap option_copied (c.in_err-partition.was {u = tt})))

pub returns-in_err-slots-clause-row : goal.returns-in_err-slots-clause-row
returns-in_err-slots-clause-row c =
    let rows = c.args.rows.now in
    let i = c.args.rowid.now in
    let fits : SFits w64 i = search rules in
    let same = to_z-of_z w64 i fits in
    let placed : place_of i rows.index ≡ Some (c.in_ok-chunk.chunk, c.in_ok-chunk.slot) = ap (λ (j : ℤ). place_of j rows.index) (sym same) ∙ sym c.in_ok-chunk.ensures in
    let it = row-there rows.parts rows.places rows.index rows.claim c.requires.tied c.known.ensures.rising i c.in_ok-chunk.chunk c.in_ok-chunk.slot placed (sym c.is_claimed.ensures ∙ c.if-is_claimed.false) in
    absurd (never_seen rows.parts c.in_ok-chunk.chunk c.in_ok-chunk.slot it.used it.seen (sym c.slots.ensures ∙ ap option_copied (c.in_err-slots.was {u = tt})))

pub returns-clause-row : goal.returns-clause-row
returns-clause-row c =
    let rows = c.args.rows.now in
    let i = c.args.rowid.now in
    let n = c.in_ok-chunk.chunk in
    let s = c.in_ok-chunk.slot in
    let fits : SFits w64 i = search rules in
    let same = to_z-of_z w64 i fits in
    let placed : place_of i rows.index ≡ Some (n, s) = ap (λ (j : ℤ). place_of j rows.index) (sym same) ∙ sym c.in_ok-chunk.ensures in
    let it = row-there rows.parts rows.places rows.index rows.claim c.requires.tied c.known.ensures.rising i n s placed (sym c.is_claimed.ensures ∙ c.if-is_claimed.false) in
    let valued : partition_of_chunk rows.places n ≡ Some c.in_ok-partition.field-0.now = sym c.partition.ensures ∙ ap option_copied (c.in_ok-partition.was {u = tt}) in
    let slotted : slots_of rows.parts n ≡ Some c.in_ok-slots.field-0.now = sym c.slots.ensures ∙ ap option_copied (c.in_ok-slots.was {u = tt}) in
    let id : option_copied c.id.result ≡ id_of i rows.index = c.id.ensures ∙ ap (λ (j : ℤ). id_of j rows.index) same in
    let values : it.values ≡ c.in_ok-partition.field-0.now = same_some it.values c.in_ok-partition.field-0.now (sym it.valued ∙ valued) in
    it.given ∙ ap (λ r. Some r) (it.is ∙ row-shown i n s _ _ it.values c.in_ok-partition.field-0.now c.in_ok-slots.field-0.now it.used id values (sym (slot-of_seen rows.parts n s c.in_ok-slots.field-0.now slotted) ∙ it.seen))

pub returns-clause-used : goal.returns-clause-used
returns-clause-used c =
    let rows = c.args.rows.now in
    let i = c.args.rowid.now in
    let n = c.in_ok-chunk.chunk in
    let s = c.in_ok-chunk.slot in
    let fits : SFits w64 i = search rules in
    let same = to_z-of_z w64 i fits in
    let placed : place_of i rows.index ≡ Some (n, s) = ap (λ (j : ℤ). place_of j rows.index) (sym same) ∙ sym c.in_ok-chunk.ensures in
    let it = row-there rows.parts rows.places rows.index rows.claim c.requires.tied c.known.ensures.rising i n s placed (sym c.is_claimed.ensures ∙ c.if-is_claimed.false) in
    let slotted : slots_of rows.parts n ≡ Some c.in_ok-slots.field-0.now = sym c.slots.ensures ∙ ap option_copied (c.in_ok-slots.was {u = tt}) in
    ap is_some (sym (slot-of_seen rows.parts n s c.in_ok-slots.field-0.now slotted) ∙ it.seen)
