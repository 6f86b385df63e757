use Rattle.std.proofs.Common.{◌≤◌, ◌∙◌, List, length, ap, sym, subst}
use Rattle.row_model.specs.declared.schema.Column.{Column}
use Rattle.row_model.specs.declared.schema.Schema.{Schema}
use Rattle.row_model.specs.declared.schema.TheConstants.{MOST_COLUMNS}
use Rattle.row_model.proofs.SchemaLaws.{narrow_columns}
use Rattle.table_writes.proofs.sets.gone_at.Goals as goal

pub row_gone-requires-clause-narrow : goal.row_gone-requires-clause-narrow
row_gone-requires-clause-narrow c =
    let table = c.args.table.now.table in
    subst (λ (cs : List Column). length cs ≤ MOST_COLUMNS) (sym (c.as_slice.ensures ∙ ap (λ (s : Schema). s.columns) c.schema.ensures)) (narrow_columns table.schema c.known.ensures.valid.schema)
