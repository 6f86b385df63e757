-- Over a keeper that counts no faults, each step is one of a machine without a store.
use Rattle.std.proofs.Common.{◌≡◌, ◌+◌, ◌≤◌, ℕ, true, inl, inr, sym, ap, ◌∙◌, arith}
use Rattle.vec_base.specs.Streams.{Rose}
use Rattle.row_model.specs.Step.{Steps, StepsInMemory}
use Rattle.row_model.specs.declared.request.Reply.{Reply}
use Rattle.row_model.specs.declared.request.Request.{Request}
use Rattle.row_model.specs.declared.state.State.{State}
use Rattle.run_commits.specs.Commits.{is_fault}

pub in_memory : (old new : State) (request : Request) (reply : Reply) → (is_fault reply ≡ true → Rose 0 0) → Steps old request reply new → StepsInMemory old request reply new
in_memory old new request reply faults (inl step) = inl step
in_memory old new request reply faults (inr (inl starved)) = inr starved
in_memory old new request reply faults (inr (inr fault)) = let rose : Rose 0 0 = faults (ap is_fault fault.1) in absurd (omega (arith, rose))
