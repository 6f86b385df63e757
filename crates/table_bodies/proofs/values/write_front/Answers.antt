use Rattle.std.proofs.Common.{rules, arith, ◌≡◌, ◌∙◌, ◌++◌, ◌+◌, ◌-◌, ◌<◌, ap, sym, append_assoc, length, replicate}
use Rattle.std.proofs.lemmas.Result.{on_ok_weaker}
use Rattle.table_bodies.proofs.CellLaws.{view_short}
use Rattle.table_bodies.proofs.values.write_front.Goals as goal

pub returns : goal.returns
returns c =
    let body = c.args.body.now in
    let text = c.args.text.now in
    let few : length text < 12 = search rules in
    let is : 12 ≡ length text + (12 - length text) = omega (arith, few) in
    let extended : c.extend-2.new.self ≡ body ++ text = search rules in
    let shown = view_short 12 12 (12 - length text) text is (omega arith) in
    on_ok_weaker c.write_zeros.result
    (λ added. added ∙ ap (λ front. front ++ replicate (12 - length text) 0) extended ∙ append_assoc body text (replicate (12 - length text) 0) ∙ ap (λ bytes. body ++ bytes) (sym shown)) c.write_zeros.ensures
