use Rattle.std.proofs.Common.{◌≡◌, ◌∙◌, ap, None}
use Rattle.std.specs.Prelude.{replicate}
use Rattle.vec_base.specs.declared.limits.TheConstants.{MOST_TABLES}
use Rattle.txn_core.proofs.OverLaws.{first-valid, no-records}
use Rattle.txn_sessions.specs.Seen.{state_of}
use Rattle.version_shelf.specs.declared.held.Held.{Held}
use Rattle.txn_tests.proofs.places.begin.Goals as goal

pub returns : goal.returns
returns g c =
    let places : c.new-2.result.held.places ≡ replicate MOST_TABLES None = ap (λ (h : Held). h.places) c.new-2.ensures.held ∙ c.none.ensures in
    record {
      sound = c.new-2.ensures.sound;
      valid = first-valid (state_of c.new-2.result) c.new.result c.none.result.places c.none.ensures c.new-2.ensures.state;
      told_all = c.requires.ended;
      holds = λ told. no-records (g.K.Keeper.tables c.args.keeper.now) c.new-2.result.shelf c.new-2.result.held.places places (c.requires.empty told);
    }
