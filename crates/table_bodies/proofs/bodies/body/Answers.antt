use Rattle.std.proofs.lemmas.Result.{IfOk-weaker}
use Rattle.table_bodies.proofs.ShortLaws.{found_short}
use Rattle.table_bodies.proofs.bodies.body.Goals as goal

pub returns-clause-short : goal.returns-clause-short
returns-clause-short c =
    IfOk-weaker c.body_of.result _ _ (λ found is. found_short c.args.table.now.table c.known.ensures c.args.key.now found is) c.body_of.ensures
