use Rattle.std.proofs.Common.{◌≡◌, drop, take}
use Rattle.vec_base.specs.Ranks.{all_placed}
use Rattle.topk_merge.specs.Hits.{is_before}
use Rattle.topk_merge.proofs.best.Best.merge.Given as goal

abbrev pub invariant-loop-hit : goal.invariant-loop-hit
invariant-loop-hit l = record {
  room : l.self.room ≡ l.initial.self.room;
  fits : take l.initial.self.room l.self.hits ≡ l.self.hits;
  hits : take l.initial.self.room (all_placed is_before l.self.hits (drop l.hit-index l.hit-items)) ≡ take l.initial.self.room (all_placed is_before l.initial.self.hits l.hit-items);
}
