use Rattle.std.proofs.Common.{◌≡◌, ◌∙◌, ap, sym, subst, true, false, length, ◌<◌, arith, rules, w64, to_z, of_z}
use mir.Val.{SFits}
use Rattle.std.proofs.lemmas.Int.{to_z-of_z}
use Rattle.row_model.specs.ColumnNames.{is_of}
use Rattle.row_model.specs.Schemas.{is_vector}
use Rattle.row_model.specs.Values.{passes}
use Rattle.row_model.specs.declared.schema.Place.TheVariants.{Rowid}
use Rattle.vec_base.specs.declared.value.Value.TheVariants.{Int}
use Rattle.knn_plan.specs.TermUses.{is_on_rows}
use Rattle.nearest_query.proofs.TermFacts.{column_place, named_number, own_rowid, plain_column, row_by_row, rowid_met}
use Rattle.nearest_query.proofs.terms.term_met.Goals as goal

pub declared_passes-requires-clause-numbered : goal.declared_passes-requires-clause-numbered
declared_passes-requires-clause-numbered c =
    let columns = c.args.table.now.table.schema.columns in
    named_number columns c.args.term.now.column c.in-Declared.number c.in-Declared.kind (sym c.in-Declared.is ∙ column_place columns c.args.term.now c.args.column c.requires.column)

pub declared_passes-requires-clause-plain : goal.declared_passes-requires-clause-plain
declared_passes-requires-clause-plain c =
    let columns = c.args.table.now.table.schema.columns in
    let named = column_place columns c.args.term.now c.args.column c.requires.column in
    let on = sym c.is_on_rows.ensures ∙ c.if-not-is_on_rows.false in
    let other = row_by_row c.args.column.place c.args.term.now.test on (ap (λ q. Rattle.row_model.specs.Check.compares_vector q c.args.term.now.test) named ∙ c.requires.fits.vector) in
    plain_column columns c.args.term.now.column c.in-Declared.number c.in-Declared.kind (sym named ∙ c.in-Declared.is) (sym (ap (is_of is_vector) c.in-Declared.is) ∙ other)

pub returns-in-Rowid : goal.returns-in-Rowid
returns-in-Rowid c p there =
    let columns = c.args.table.now.table.schema.columns in
    let same = own_rowid c.args.table.now.table.rows c.args.rowid.now p there in
    let named = column_place columns c.args.term.now c.args.column c.requires.column in
    let on = sym c.is_on_rows.ensures ∙ c.if-not-is_on_rows.false in
    let at : Rowid ≡ Rattle.row_model.specs.ColumnNames.place_of columns c.args.term.now.column = sym c.in-Rowid.is ∙ named in
    let fits : SFits w64 c.args.rowid.now = search rules in
    c.passes.ensures ∙ ap (λ n. passes c.args.term.now.test (Int n)) (to_z-of_z w64 c.args.rowid.now fits) ∙ rowid_met columns c.args.term.now p.row c.args.rowid.now Rowid at Rattle.std.proofs.Common.refl (subst (λ q. is_on_rows q c.args.term.now.test ≡ true) c.in-Rowid.is on) same
