use Rattle.vec_shell.proofs.Buffering.{buffered_passed, puts_off}
use Rattle.vec_shell.proofs.output.Output.put_directly.Goals as goal

pub returns-then-self : goal.returns-then-self
returns-then-self g c = record {
  adds = λ base start bytes h.
      buffered_passed c.flush.new.self _ c.args.part.now base start bytes _ _ _ _ c.if-self.true (c.flush.ensures.held c.if-self.true)
      (c.flush.ensures.held c.if-self.true) c.takes_all-self.ensures.written c.takes_all-self.ensures.later
      (c.flush.ensures.keeps base start bytes h);
}

pub returns-else-self : goal.returns-else-self
returns-else-self g c = record {
  adds = λ base start bytes h.
      (puts_off c.flush.new.self c.args.part.now _ _ c.if-self.false).adds base start bytes (c.flush.ensures.keeps base start bytes h);
}
