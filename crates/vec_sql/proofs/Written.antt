-- What is written behind a text, piece by piece.
use Rattle.std.proofs.Common.{◌≡◌, ℕ, List, ◌++◌, Result, Ok, Err, ◌∙◌, ap, append_assoc}
use Rattle.std.specs.Result.{OnOk}

-- a piece behind others
pub written_more : (start middle end a b : List ℕ) → middle ≡ start ++ a → end ≡ middle ++ b → end ≡ start ++ (a ++ b)
written_more start middle end a b first second = second ∙ ap (λ (z : List ℕ). z ++ b) first ∙ append_assoc start a b

-- the last piece, which may not be written
pub written_last : {E : Type 0} (r : Result (Unit {0}) E) (start middle end a b : List ℕ) → middle ≡ start ++ a → OnOk r (end ≡ middle ++ b) → OnOk r (end ≡ start ++ (a ++ b))
written_last (Ok u) start middle end a b first second = written_more start middle end a b first second
written_last (Err e) start middle end a b first second = second
