-- What calls answer that may want memory. `starved` is the error that stands for want of memory, which no clause ties to a cause.
use Rattle.std.specs.Prelude.{◌≡◌, ◌⊎◌, Result, Ok, Err, IfOk, IfErr}

-- this value, or want of memory
abbrev pub Answers : {A E : Type 0} → E → Result A E → A → Type 0
Answers starved result value = (result ≡ Ok value) ⊎ (result ≡ Err starved)

-- this error, or want of memory
abbrev pub Refuses : {A E : Type 0} → E → Result A E → E → Type 0
Refuses starved result error = (result ≡ Err error) ⊎ (result ≡ Err starved)

-- Exactly the value that is to be given, or exactly the error that is to be given, or want of memory. Where there is such a
-- value, or such an error, nothing else is answered.
pub record IsExactAnswer {A E : Type 0} (starved : E) (IsValue : A → Type 0) (IsError : E → Type 0) (result : Result A E) : Type 0 where
  pub value : IfOk result IsValue
  pub error : IfErr result (λ e. (e ≡ starved) ⊎ IsError e)
  pub only_value : (value : A) → IsValue value → Answers starved result value
  pub only_error : (error : E) → IsError error → Refuses starved result error

-- the same of a value or an error that a definition computes
abbrev pub Gives : {A E : Type 0} → E → Result A E → Result A E → Type 0
Gives starved result given = (result ≡ given) ⊎ (result ≡ Err starved)
