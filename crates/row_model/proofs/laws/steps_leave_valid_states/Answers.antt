use Rattle.row_model.proofs.ValidityStates.{steps_valid}
use Rattle.row_model.proofs.laws.steps_leave_valid_states.Goals as goal

pub returns : goal.returns
returns c = steps_valid
