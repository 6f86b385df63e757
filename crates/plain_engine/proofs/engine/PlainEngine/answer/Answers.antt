use Rattle.row_model.proofs.ValidityStates.{steps_in_memory_valid}
use Rattle.plain_engine.specs.inner.Machines.{state_of}
use Rattle.plain_engine.proofs.engine.PlainEngine.answer.Goals as goal

pub invariant_of-self-inside : goal.invariant_of-self-inside
invariant_of-self-inside c =
    (steps_in_memory_valid (state_of c.self.inside.machine) (state_of c.answer.new.self) c.args.request c.answer.result c.self.inside.valid c.requires.well_formed c.answer.ensures, tt)
