use Rattle.std.proofs.Common.{codes, ◌++◌}
use Rattle.vec_sql.specs.CanonicalStatements.{listed, name_text, group_text}
use Rattle.vec_sql.proofs.Written.{written_more, written_last}
use Rattle.vec_sql.proofs.write.write_insert.Goals as goal

pub returns : goal.returns
returns c =
    let table = c.args.insert.now.table in
    let names = listed name_text c.args.insert.now.columns in
    let one = written_more _ _ _ (codes "INSERT INTO ") table c.in_ok-push_str.ensures.bytes c.in_ok-write.ensures.text in
    let two = written_more _ _ _ (codes "INSERT INTO " ++ table) (codes " (") one c.in_ok-push_str-2.ensures.bytes in
    let three = written_more _ _ _ (codes "INSERT INTO " ++ table ++ codes " (") names two c.in_ok-write_listed.ensures.text in
    let four = written_more _ _ _ (codes "INSERT INTO " ++ table ++ codes " (" ++ names) (codes ") VALUES ") three c.in_ok-push_str-3.ensures.bytes in
    record { text = written_last c.write_listed-2.result _ _ _ (codes "INSERT INTO " ++ table ++ codes " (" ++ names ++ codes ") VALUES ") (listed group_text c.args.insert.now.rows) four c.write_listed-2.ensures.text }
