-- A text that spells a vector gets no other fault than want of memory.
use Rattle.std.proofs.Common.{◌≡◌, ℕ, Bool, true, false, List, Result, Ok, Err, inl, inr, sym, ◌∙◌, ap}
use Rattle.std.specs.Option.{unwrap_or}
use Rattle.std.specs.Result.{result_err}
use Rattle.vec_base.specs.Answers.{Answers}
use Rattle.vec_literal.specs.declared.int8.LitFault.{LitFault}
use Rattle.vec_literal.specs.declared.int8.LitFault.TheVariants.{Memory}

abbrev pub is_memory : LitFault → Bool
is_memory Memory = true
is_memory _ = false

starved_only : (result : Result (List ℕ) LitFault) (fault : LitFault) (vector : List ℕ) → Answers Memory result vector → result ≡ Err fault → fault ≡ Memory
starved_only result fault vector (inl read) refused = absurd (cc (sym read ∙ refused))
starved_only result fault vector (inr starved) refused = ap (λ (q : Result (List ℕ) LitFault). unwrap_or (result_err q) Memory) (sym refused ∙ starved)

pub never_refused : (result : Result (List ℕ) LitFault) (fault told : LitFault) (vector : List ℕ) → Answers Memory result vector → result ≡ Err fault → fault ≡ told → is_memory told ≡ false → ⊥
never_refused result fault told vector answer refused same other =
    let no : true ≡ false = ap is_memory (sym (starved_only result fault vector answer refused) ∙ same) ∙ other in
    absurd cc
