use Rattle.std.proofs.Common.{codes, ◌++◌}
use Rattle.vec_sql.specs.CanonicalStatements.{where_text}
use Rattle.vec_sql.proofs.Written.{written_more, written_last}
use Rattle.vec_sql.proofs.write.write_delete.Goals as goal

pub returns : goal.returns
returns c =
    let table = c.args.delete.now.table in
    record {
      text = written_last c.write_where.result _ _ _ (codes "DELETE FROM " ++ table) (where_text c.args.delete.now.where_terms)
          (written_more _ _ _ (codes "DELETE FROM ") table c.in_ok-push_str.ensures.bytes c.in_ok-write.ensures.text) c.write_where.ensures.text;
    }
