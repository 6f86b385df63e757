use Rattle.std.proofs.Common.{codes, ◌++◌}
use Rattle.row_model.specs.CanonicalColumns.{canonical_columns}
use Rattle.vec_sql.proofs.Written.{written_more, written_last}
use Rattle.vec_sql.proofs.write.write_create.Goals as goal

pub returns : goal.returns
returns c =
    let table = c.args.table.now in
    let columns = canonical_columns c.args.schema.now in
    let name = rw c.as_text.ensures at c.in_ok-put-2.ensures.added in
    let one = written_more _ _ _ (codes "CREATE VIRTUAL TABLE ") table c.in_ok-put.ensures.added name in
    let two = written_more _ _ _ (codes "CREATE VIRTUAL TABLE " ++ table) (codes " USING vec0(") one c.in_ok-put-3.ensures.added in
    let three = written_more _ _ _ (codes "CREATE VIRTUAL TABLE " ++ table ++ codes " USING vec0(") columns two c.in_ok-put_columns.ensures.added in
    written_last c.put-4.result _ _ _ (codes "CREATE VIRTUAL TABLE " ++ table ++ codes " USING vec0(" ++ columns) (codes ")") three c.put-4.ensures.added
