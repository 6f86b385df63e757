use Rattle.row_model.proofs.SchemaLaws.{narrow_columns}
use Rattle.row_model.proofs.SelectLaws.{comparable_rows, few_wanted}
use Rattle.plain_engine.proofs.answer.answer.Goals as goal

pub item_places-requires : goal.item_places-requires
item_places-requires c = record { narrow = rw c.as_slice-columns.ensures (narrow_columns c.args.table.now.schema c.requires.valid.schema) }

pub chosen-requires-clause-narrow : goal.chosen-requires-clause-narrow
chosen-requires-clause-narrow c = rw c.as_slice-columns.ensures (narrow_columns c.args.table.now.schema c.requires.valid.schema)

pub chosen-requires-clause-comparable : goal.chosen-requires-clause-comparable
chosen-requires-clause-comparable c =
    rw (c.as_slice-columns.ensures, c.as_slice.ensures) (comparable_rows c.args.table.now c.args.select.now c.requires.valid c.requires.checked)

pub chosen-requires-clause-few : goal.chosen-requires-clause-few
chosen-requires-clause-few c =
    rw c.as_slice-columns.ensures (few_wanted c.args.table.now.schema.columns c.args.select.now c.requires.checked)
