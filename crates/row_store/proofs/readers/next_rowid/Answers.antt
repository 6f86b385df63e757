use Rattle.std.proofs.Common.{◌≡◌, ℤ, true, false, sym, ap, ◌∙◌, rules, SFits, w64, Some}
use Rattle.std.specs.Option.{option_map}
use Rattle.std.proofs.lemmas.Int.{to_z-of_z}
use Rattle.row_index.specs.Entries.{next_after}
use Rattle.row_store.specs.StoredRows.{rowid_of}
use Rattle.row_store.specs.inner.Views.{is_claimed_rowid}
use Rattle.row_store.proofs.ReadLaws.{next-nowhere, next-first, next-claimed, next-behind}
use Rattle.row_store.proofs.readers.next_rowid.Goals as goal

pub returns-in_err-rowid : goal.returns-in_err-rowid
returns-in_err-rowid c =
    let rows = c.args.rows.now in
    c.from_residual.ensures ∙ sym (ap (option_map rowid_of) (next-nowhere rows.parts rows.places rows.index rows.claim c.requires c.known.ensures.rising c.args.after (sym c.in_err-rowid.ensures)))

pub returns-then-is_claimed : goal.returns-then-is_claimed
returns-then-is_claimed c =
    let rows = c.args.rows.now in
    let i = c.in_ok-rowid.rowid in
    let fits : SFits w64 i = search rules in
    let same = to_z-of_z w64 i fits in
    let own : is_claimed_rowid rows.claim i ≡ true = ap (is_claimed_rowid rows.claim) (sym same) ∙ sym c.is_claimed.ensures ∙ c.if-is_claimed.true in
    c.next-then-is_claimed.ensures ∙ ap (λ j. next_after (Some j) rows.index) same
    ∙ next-behind rows.parts rows.places rows.index rows.claim c.requires c.known.ensures.rising i own
    ∙ sym (ap (option_map rowid_of) (next-claimed rows.parts rows.places rows.index rows.claim c.requires c.known.ensures.rising c.args.after i (sym c.in_ok-rowid.ensures) own))

pub returns-else-is_claimed : goal.returns-else-is_claimed
returns-else-is_claimed c =
    let rows = c.args.rows.now in
    let i = c.in_ok-rowid.rowid in
    let fits : SFits w64 i = search rules in
    let same = to_z-of_z w64 i fits in
    let other : is_claimed_rowid rows.claim i ≡ false = ap (is_claimed_rowid rows.claim) (sym same) ∙ sym c.is_claimed.ensures ∙ c.if-is_claimed.false in
    ap (λ (j : ℤ). Some j) same ∙ sym (next-first rows.parts rows.places rows.index rows.claim c.requires c.known.ensures.rising c.args.after i (sym c.in_ok-rowid.ensures) other)
