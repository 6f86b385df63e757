use Rattle.std.proofs.Common.{rules, ◌≡◌, pos, get_or, take, ap, sym, ◌∙◌, arith}
use Rattle.std.proofs.lemmas.List.{take-take}
use Rattle.vec_base.specs.Ranks.{placed}
use Rattle.topk_merge.specs.declared.hit.Hit.{Hit}
use Rattle.topk_merge.specs.Hits.{is_before}
use Rattle.topk_merge.proofs.OrderLaws.{kept-more}
use Rattle.topk_merge.proofs.best.Best.merge.Goals as goal

pub loop-hit-preserved : goal.loop-hit-preserved
loop-hit-preserved c =
    let room = c.args.self.now.room in
    let some_hit : Hit = record { distance = 0; rowid = pos 0 } in
    let is : c.offer.new.self.hits ≡ take room (placed is_before (get_or c.deref-hit-items.result.now c.loop-hit.hit-index some_hit) c.loop-hit.self.hits) = search rules in
    record {
      room = c.offer.ensures.room ∙ c.loop-hit.invariant.room;
      fits = ap (take room) is ∙ take-take room room _ (omega arith) ∙ sym is;
      hits = kept-more is_before room some_hit c.loop-hit.self.hits c.offer.new.self.hits c.deref-hit-items.result.now c.loop-hit.hit-index (search rules) is ∙ c.loop-hit.invariant.hits;
    }
