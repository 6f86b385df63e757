-- How much of what is to be written a sink has taken.
use Rattle.std.specs.Prelude.{◌≡◌, ℕ, ◌≤◌, Bool, MatchBool, List, ◌++◌}
use Rattle.std.specs.declared.option.Option.{Option}
use Rattle.vec_base.specs.Streams.{Rose, Gains}
use Rattle.vec_shell.specs.declared.output.Output.{Output}
use Rattle.vec_shell.specs.Fronts.{IsProperFront}

-- a proper front of the bytes was taken
abbrev pub CutOff : Option (List ℕ) → List ℕ → Option (List ℕ) → Type 0
CutOff old bytes new = (front : List ℕ) × IsProperFront front bytes × Gains old front new

-- From what the sink had taken and its count of faults on, these bytes were to be written. They were, or a proper front
-- of them and the count has risen.
pub record Sent (base : Option (List ℕ)) (start : ℕ) (bytes : List ℕ) (going : Bool) (taken : Option (List ℕ)) (faults : ℕ) : Type 0 where
  pub later : start ≤ faults
  pub written : MatchBool going (Gains base bytes taken) (CutOff base bytes taken × Rose start faults)

-- the sink took a front of the bytes, and the others are held
abbrev pub FrontTaken : Option (List ℕ) → List ℕ → List ℕ → Option (List ℕ) → Type 0
FrontTaken base bytes held taken = (front : List ℕ) × (bytes ≡ front ++ held) × Gains base front taken

-- From what the sink had taken and its count of faults on, these bytes were handed to the output. The sink took them but
-- for those that the output still holds, or it took a proper front of them and the count has risen.
pub record Buffered (base : Option (List ℕ)) (start : ℕ) (bytes : List ℕ) (output : Output) (taken : Option (List ℕ)) (faults : ℕ) : Type 0 where
  pub later : start ≤ faults
  pub written : MatchBool output.going (FrontTaken base bytes output.held taken) (CutOff base bytes taken × Rose start faults)
