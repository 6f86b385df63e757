use Rattle.std.proofs.Common.{◌∙◌, sym, arith}
use Rattle.std.proofs.lemmas.Result.{IfOk-weaker}
use Rattle.nearest_query.specs.inner.Scanning.{IsReady}
use Rattle.nearest_query.proofs.FindingLaws.{nearest_found, reads_found}
use Rattle.nearest_query.proofs.VectorLaws.{few_hits}
use Rattle.nearest_query.proofs.search.nearest.Goals as goal

pub overflow_cast-k : goal.overflow_cast-k
overflow_cast-k g c =
    let ready : IsReady c.args.table.now.table c.args.plan.now c.in-Some.target = record { placed = c.known.ensures; plan_for = c.requires.plan; target_is = sym c.target.ensures ∙ c.in-Some.is } in
    let few = few_hits c.args.table.now.table c.args.plan.now c.in-Some.target ready in
    let count = c.count-k.ensures in
    omega (arith, few, count)

pub returns-clause-hits : goal.returns-clause-hits
returns-clause-hits g c =
    let table = c.args.table.now.table in
    let plan = c.args.plan.now in
    let ready : IsReady table plan c.in-Some.target = record { placed = c.known.ensures; plan_for = c.requires.plan; target_is = sym c.target.ensures ∙ c.in-Some.is } in
    IfOk-weaker c.search.result _ _ (λ hits h. h ∙ nearest_found table plan c.in-Some.target c.count-k.result ready c.count-k.ensures) c.search.ensures.hits

pub returns-clause-reads : goal.returns-clause-reads
returns-clause-reads g c =
    let table = c.args.table.now.table in
    let plan = c.args.plan.now in
    let same = reads_found table plan.select.where_terms c.in-Some.target c.known.ensures in
    let most = c.search.ensures.reads in
    omega (arith, most, same)
