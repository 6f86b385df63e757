use Rattle.std.proofs.Common.{◌++◌}
use Rattle.vec_shell.proofs.Buffering.{buffered_held, puts_off}
use Rattle.vec_shell.proofs.output.Output.hold.Goals as goal

pub returns-then-not-self : goal.returns-then-not-self
returns-then-not-self g c = puts_off c.args.self.now c.args.part.now _ _ c.if-not-self.true

pub returns-in-Ok : goal.returns-in-Ok
returns-in-Ok g c = record {
  adds = λ base start bytes h.
      c.flush_piece.ensures base start (bytes ++ c.args.part.now)
      (buffered_held c.args.self.now _ c.args.part.now base start bytes _ _ c.if-not-self.false c.if-not-self.false c.in-Ok.ensures.ok h);
}
