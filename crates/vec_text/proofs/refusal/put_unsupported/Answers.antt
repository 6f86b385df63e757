use Rattle.std.proofs.Common.{ℕ, List, OnOk, subst}
use Rattle.std.proofs.lemmas.Result.{on_ok_weaker}
use Rattle.vec_text.proofs.refusal.put_unsupported.Goals as goal

pub returns-clause-added : goal.returns-clause-added
returns-clause-added g c =
    on_ok_weaker c.put-2.result (g.met.W.Takes.both _ _ _ _ _ c.in_ok-put.ensures.added)
    (subst (λ (word : List ℕ). OnOk c.put-2.result (g.W.Takes.adds word c.put.new.self c.put-2.new.self)) c.unsupported_word.ensures c.put-2.ensures.added)
