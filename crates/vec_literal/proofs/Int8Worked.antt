-- Faults of some texts, by the definition of a fault.
use Rattle.std.proofs.Common.{◌≡◌, ℕ, ◌<◌, length, take, get_or, false, List, [], ◌∷◌, Some, None, codes, refl, arith}
use Rattle.vec_literal.specs.Faults.{IsInt8Fault}
use Rattle.vec_literal.specs.declared.int8.LitFault.TheVariants.{Place, Range}
use Rattle.vec_literal.specs.declared.int8.Stage.TheVariants.{Start, Digits, Closed}
use Rattle.vec_literal.specs.inner.Int8Reading.{read_byte, reader_at}
use Rattle.vec_literal.proofs.Int8Laws.{Reads, no_reader, end_answers, refused_answers, fault_of_answer}

-- a byte that no number may have behind its digits, or none behind a zero
refused_in_number : (text : List ℕ) (n m : ℕ) (v : List ℕ) → n < length text → Reads (take n text) (reader_at (Digits (record { negative = false; magnitude = m })) v) →
    read_byte (reader_at (Digits (record { negative = false; magnitude = m })) v) (get_or text n 0) ≡ no_reader → IsInt8Fault text (Place n)
refused_in_number text n m v within read refused = fault_of_answer text (Place n) (refused_answers text _ n within read refused) (λ e. cc e)

nothing : IsInt8Fault [] (Place 0)
nothing = fault_of_answer [] (Place 0) (end_answers None Start [] [] refl) (λ e. cc e)

not_closed : IsInt8Fault (codes "[1,2") (Place 4)
not_closed = fault_of_answer (codes "[1,2") (Place 4) (end_answers None (Digits (record { negative = false; magnitude = 2 })) (1 ∷ []) (codes "[1,2") refl) (λ e. cc e)

leading_zero : IsInt8Fault (codes "[01]") (Place 2)
leading_zero = refused_in_number (codes "[01]") 2 0 [] (omega arith) refl refl

fraction : IsInt8Fault (codes "[1.5]") (Place 2)
fraction = refused_in_number (codes "[1.5]") 2 1 [] (omega arith) refl refl

too_large : IsInt8Fault (codes "[1,200]") (Range 1)
too_large = fault_of_answer (codes "[1,200]") (Range 1) (end_answers (Some 1) Closed (1 ∷ []) (codes "[1,200]") refl) (λ e. cc e)

-- a place comes before a range
too_large_and_open : IsInt8Fault (codes "[300,,") (Place 5)
too_large_and_open = fault_of_answer (codes "[300,,") (Place 5) (refused_answers (codes "[300,,") _ 5 (omega arith) refl refl) (λ e. cc e)
