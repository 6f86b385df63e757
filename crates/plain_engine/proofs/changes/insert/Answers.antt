use Rattle.row_model.proofs.SchemaLaws.{narrow_columns}
use Rattle.plain_engine.proofs.TableLaws.{table_valid}
use Rattle.plain_engine.proofs.changes.insert.Goals as goal

pub check_insert-requires : goal.check_insert-requires
check_insert-requires c = record {
  narrow = rw c.as_slice.ensures (narrow_columns c.in-Some.found.table.now.schema
      (table_valid c.args.insert.now.table c.args.catalog.now c.in-Some.found.table.now c.requires.valid (rw c.as_slice-tables.ensures at c.in-Some.ensures.table)).schema);
}

pub insert_all-requires : goal.insert_all-requires
insert_all-requires c = record {
  valid = table_valid c.args.insert.now.table c.args.catalog.now c.in-Some.found.table.now c.requires.valid (rw c.as_slice-tables.ensures at c.in-Some.ensures.table);
}
