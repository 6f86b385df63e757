-- What is read in a session leaves the machine as it is.
use Rattle.std.proofs.Common.{◌≡◌, ◌⊎◌, inl, inr, ap, sym, ℕ}
use Rattle.vec_base.specs.declared.refusal.Refusal.TheVariants.{WantOfMemory}
use Rattle.row_model.specs.Step.{explained, found, selected}
use Rattle.row_model.specs.declared.request.Reply.{Reply}
use Rattle.row_model.specs.declared.request.Reply.TheVariants.{Refused}
use Rattle.row_model.specs.declared.state.State.{State}
use Rattle.row_model.specs.declared.statement.Select.{Select}
use Rattle.txn_sessions.specs.Seen.{session_at, state_of}
use Rattle.txn_sessions.specs.Sound.{IsSound}
use Rattle.txn_sessions.specs.Takes.{Takes, TakesOrWants}
use Rattle.txn_sessions.specs.declared.machine.Machine.{Machine}
use Rattle.txn_sessions.proofs.TurnLaws.{takes_none}

pub answered : (machine : Machine) (answer : Reply × State) (reply : Reply) → IsSound machine → (answer ≡ (reply, state_of machine)) ⊎ (reply ≡ Refused WantOfMemory) → TakesOrWants machine answer reply machine
answered machine answer reply sound (inl step) = inl (takes_none machine answer reply sound step)
answered machine answer reply sound (inr starved) = inr (takes_none machine (Refused WantOfMemory, state_of machine) reply sound (ap (λ (r : Reply). (r, state_of machine)) (sym starved)))

pub select_turn : (machine : Machine) (at : ℕ) (select : Select) (reply : Reply) → IsSound machine →
    (selected select (state_of machine) (found select.table (state_of machine) (session_at machine at)) ≡ (reply, state_of machine)) ⊎ (reply ≡ Refused WantOfMemory) →
    TakesOrWants machine (selected select (state_of machine) (found select.table (state_of machine) (session_at machine at))) reply machine
select_turn machine at select reply sound step = answered machine (selected select (state_of machine) (found select.table (state_of machine) (session_at machine at))) reply sound step

pub explain_turn : (machine : Machine) (at : ℕ) (select : Select) (reply : Reply) → IsSound machine →
    explained select (state_of machine) (found select.table (state_of machine) (session_at machine at)) ≡ (reply, state_of machine) →
    Takes machine (explained select (state_of machine) (found select.table (state_of machine) (session_at machine at))) reply machine
explain_turn machine at select reply sound step = takes_none machine (explained select (state_of machine) (found select.table (state_of machine) (session_at machine at))) reply sound step
