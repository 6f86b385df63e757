use Rattle.std.proofs.Common.{ℤ, Some, sym, ap, ◌∙◌, rules, w64, SFits}
use Rattle.std.proofs.lemmas.Int.{to_z-of_z}
use Rattle.row_index.specs.Entries.{entry_of, rowid_of}
use Rattle.row_index.proofs.IdLaws.{id_unpaired, id_gone, id_left, id_found}
use Rattle.row_index.proofs.index.RowIndex.rowid_of.Goals as goal

pub returns-in_err-rowid : goal.returns-in_err-rowid
returns-in_err-rowid c =
    c.from_residual.ensures
    ∙ sym (id_unpaired c.args.id.now c.self.inside.entries c.self.inside.ids c.self.invariant (sym c.in_err-rowid.ensures))
    ∙ ap (rowid_of c.args.id.now) c.self.view_is

pub returns-in_err-entry : goal.returns-in_err-entry
returns-in_err-entry c =
    let fits : SFits w64 c.in_ok-rowid.rowid = search rules in
    let same = to_z-of_z w64 c.in_ok-rowid.rowid fits in
    c.from_residual-in_err-entry.ensures
    ∙ sym (id_gone c.args.id.now c.self.inside.entries c.self.inside.ids c.in_ok-rowid.rowid c.self.invariant (sym c.in_ok-rowid.ensures) (ap (λ (r : ℤ). entry_of r c.self.inside.entries) (sym same) ∙ sym c.in_err-entry.ensures))
    ∙ ap (rowid_of c.args.id.now) c.self.view_is

pub returns-then-has_id : goal.returns-then-has_id
returns-then-has_id c =
    let fits : SFits w64 c.in_ok-rowid.rowid = search rules in
    let same = to_z-of_z w64 c.in_ok-rowid.rowid fits in
    ap Some same
    ∙ sym (
    id_found c.args.id.now c.self.inside.entries c.self.inside.ids c.in_ok-rowid.rowid c.in_ok-entry.entry.now c.self.invariant (sym c.in_ok-rowid.ensures)
    (ap (λ (r : ℤ). entry_of r c.self.inside.entries) (sym same) ∙ sym c.in_ok-entry.ensures)
    (sym c.has_id.ensures ∙ c.if-has_id.true))
    ∙ ap (rowid_of c.args.id.now) c.self.view_is

pub returns-else-has_id : goal.returns-else-has_id
returns-else-has_id c =
    let fits : SFits w64 c.in_ok-rowid.rowid = search rules in
    let same = to_z-of_z w64 c.in_ok-rowid.rowid fits in
    sym (
    id_left c.args.id.now c.self.inside.entries c.self.inside.ids c.in_ok-rowid.rowid c.in_ok-entry.entry.now c.self.invariant (sym c.in_ok-rowid.ensures)
    (ap (λ (r : ℤ). entry_of r c.self.inside.entries) (sym same) ∙ sym c.in_ok-entry.ensures)
    (sym c.has_id.ensures ∙ c.if-has_id.false))
    ∙ ap (rowid_of c.args.id.now) c.self.view_is
