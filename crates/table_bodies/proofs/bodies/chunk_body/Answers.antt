use Rattle.std.proofs.Common.{rules, ◌≡◌, ◌∙◌, pos}
use Rattle.std.proofs.lemmas.Result.{IfOk-weaker}
use Rattle.table_bodies.proofs.BodyLaws.{rowids_in, used_in}
use Rattle.table_bodies.proofs.bodies.chunk_body.Goals as goal

pub returns-then-b-eq1 : goal.returns-then-b-eq1
returns-then-b-eq1 c =
    let a : c.args.a ≡ pos c.in-Ok.chunk = search rules in
    let b : c.args.b ≡ pos 1 = search rules in
    IfOk-weaker c.whole.result _ _ (λ body is. is ∙ used_in c.args.table.now.table c.in-Ok.chunk c.args.a c.args.b a b) c.whole.ensures

pub returns-then-b-eq2 : goal.returns-then-b-eq2
returns-then-b-eq2 c =
    let a : c.args.a ≡ pos c.in-Ok.chunk = search rules in
    let b : c.args.b ≡ pos 2 = search rules in
    IfOk-weaker c.whole-then-b-eq2.result _ _ (λ body is. is ∙ rowids_in c.args.table.now.table c.in-Ok.chunk c.args.a c.args.b a b) c.whole-then-b-eq2.ensures
