use Rattle.vec_shell.proofs.Buffering.{buffered_flushed}
use Rattle.vec_shell.proofs.output.Output.flush.Goals as goal

pub returns-clause-keeps : goal.returns-clause-keeps
returns-clause-keeps g c = λ base start bytes h.
    buffered_flushed c.args.self.now _ base start bytes _ _ _ _ c.if-not-self.false c.clear.ensures
    (rw (← c.as_slice.ensures) c.takes_all-self.ensures.written) c.takes_all-self.ensures.later h
