use Rattle.std.proofs.Common.{◌∙◌, ap, sym}
use Rattle.row_model.specs.ColumnNames.{is_of}
use Rattle.row_model.specs.Schemas.{is_metadata}
use Rattle.nearest_query.proofs.TermFacts.{column_place, test_taken}
use Rattle.nearest_query.proofs.terms.filter_by.Goals as goal

pub filter-requires-clause-test : goal.filter-requires-clause-test
filter-requires-clause-test c =
    let columns = c.args.table.now.table.schema.columns in
    let at = sym (column_place columns c.args.term.now c.args.column c.requires.column) ∙ c.in-Declared.is in
    test_taken columns c.args.term.now c.in-Declared.number c.in-Declared.field-1 c.requires.fits at (sym (ap (is_of is_metadata) c.in-Declared.is) ∙ (sym c.has_role.ensures ∙ c.if-not-has_role.false))
