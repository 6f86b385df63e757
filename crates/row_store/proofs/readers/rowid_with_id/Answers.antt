use Rattle.std.proofs.Common.{◌≡◌, ℤ, true, false, sym, ap, ◌∙◌, rules, SFits, w64, Some}
use Rattle.std.specs.Option.{option_map}
use Rattle.std.proofs.lemmas.Int.{to_z-of_z}
use Rattle.row_store.specs.StoredRows.{rowid_of}
use Rattle.row_store.specs.inner.Views.{is_claimed_rowid}
use Rattle.row_store.proofs.ReadLaws.{id-nowhere, id-first, id-claimed}
use Rattle.row_store.proofs.readers.rowid_with_id.Goals as goal

pub returns-in_err-rowid : goal.returns-in_err-rowid
returns-in_err-rowid c =
    let rows = c.args.rows.now in
    c.from_residual.ensures ∙ sym (ap (option_map rowid_of) (id-nowhere rows.parts rows.places rows.index rows.claim c.requires c.known.ensures.rising c.args.id.now (sym c.in_err-rowid.ensures)))

pub returns-then-is_claimed : goal.returns-then-is_claimed
returns-then-is_claimed c =
    let rows = c.args.rows.now in
    let i = c.in_ok-rowid.rowid in
    let fits : SFits w64 i = search rules in
    let same = to_z-of_z w64 i fits in
    let own : is_claimed_rowid rows.claim i ≡ true = ap (is_claimed_rowid rows.claim) (sym same) ∙ sym c.is_claimed.ensures ∙ c.if-is_claimed.true in
    sym (ap (option_map rowid_of) (id-claimed rows.parts rows.places rows.index rows.claim c.requires c.known.ensures.rising c.args.id.now i c.known.ensures.own_ids (sym c.in_ok-rowid.ensures) own))

pub returns-else-is_claimed : goal.returns-else-is_claimed
returns-else-is_claimed c =
    let rows = c.args.rows.now in
    let i = c.in_ok-rowid.rowid in
    let fits : SFits w64 i = search rules in
    let same = to_z-of_z w64 i fits in
    let other : is_claimed_rowid rows.claim i ≡ false = ap (is_claimed_rowid rows.claim) (sym same) ∙ sym c.is_claimed.ensures ∙ c.if-is_claimed.false in
    ap (λ (j : ℤ). Some j) same ∙ sym (id-first rows.parts rows.places rows.index rows.claim c.requires c.known.ensures.rising c.args.id.now i (sym c.in_ok-rowid.ensures) other)
