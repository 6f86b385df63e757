use Rattle.row_model.proofs.SchemaLaws.{narrow_columns}
use Rattle.plain_engine.proofs.changes.delete_all.Goals as goal

pub kept-requires : goal.kept-requires
kept-requires c = record { narrow = rw c.as_slice-columns.ensures (narrow_columns c.args.table.now.schema c.requires.valid.schema) }

pub met_count-count-requires : goal.met_count-count-requires
met_count-count-requires c = record { narrow = rw c.as_slice-columns.ensures (narrow_columns c.args.table.now.schema c.requires.valid.schema) }
