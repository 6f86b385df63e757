-- What is known of the parameters of a statement while its values are gone through.
use Rattle.std.specs.Prelude.{◌≡◌, ℕ, ◌+◌, Bool, if◌then◌else◌, nat_lt, max, List, ◌++◌, Option, Some, None, MatchOption}
use Rattle.vec_base.specs.declared.value.Value.{Value}
use Rattle.sql_reader.specs.declared.parameters.UseSummary.{UseSummary}
use Rattle.sql_reader.specs.GivenStatements.{Use}
use Rattle.sql_reader.specs.inner.PartMeanings.{AreTaken}
use Rattle.sql_reader.specs.StatementReading.{IsLeastUntaken, greatest}

-- the summary of these uses
pub record Summarizes (params : List Value) (seen : List Use) (summary : UseSummary) : Type 0 where
  pub greatest : summary.greatest ≡ greatest seen
  pub untaken : MatchOption summary.untaken (AreTaken params seen) (λ index. IsLeastUntaken params seen index)

-- the summary goes on by these uses
abbrev pub SummarizesMore : List Value → List Use → UseSummary → UseSummary → Type 0
SummarizesMore params more old new = (seen : List Use) → Summarizes params seen old → Summarizes params (seen ++ more) new

abbrev pub lesser : ℕ → Option ℕ → ℕ
lesser n None = n
lesser n (Some m) = if nat_lt n m then n else m

-- the summary with one parameter more
abbrev pub with_use : ℕ → Bool → UseSummary → UseSummary
with_use number taken old = record { greatest = max old.greatest number; untaken = if taken then old.untaken else Some (lesser number old.untaken) }

-- the fault, where this many parameters are given
abbrev pub fault_of : UseSummary → ℕ → Option ℕ
fault_of summary count =
    if nat_lt count summary.greatest then Some (count + 1) else if nat_lt summary.greatest count then Some (summary.greatest + 1) else summary.untaken
