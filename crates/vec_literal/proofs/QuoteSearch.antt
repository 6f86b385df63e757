-- The first quote of a text, by a search.
use Rattle.std.proofs.Common.{◌≡◌, ℕ, ◌<◌, ◌≤◌, length, get_or, true, false, not, inl, inr, List, Option, Some, None, sym, ◌∙◌, ap, arith}
use Rattle.std.specs.Prelude.{◌==◌, unwrap_or}
use Rattle.std.specs.List.{prefix_len}
use Rattle.std.proofs.lemmas.Bool.{cases_Bool, not_from_false}
use Rattle.std.proofs.lemmas.List.Sums.{prefix_len_is}
use Rattle.memchr.specs.Find.{IsFirstByte, is_byte, Passes}
use Rattle.vec_literal.specs.inner.Stretches.{is_plain}

other_byte : (text : List ℕ) (k : ℕ) → (Passes (is_byte 39) text k → ⊥) → is_plain (get_or text k 0) ≡ true
other_byte text k other = elim (cases_Bool (get_or text k 0 == 39)) [ inl quote ↦ absurd (other quote) | inr plain ↦ not_from_false (get_or text k 0 == 39) plain ]

pub first_quote : (text : List ℕ) (found : Option ℕ) (n : ℕ) → IsFirstByte (is_byte 39) text found → n ≡ unwrap_or found (length text) → n ≡ prefix_len is_plain text
first_quote text (Some at) n h e =
    e ∙ sym (prefix_len_is is_plain text at 0 (omega (arith, h.0.high)) (λ k less. other_byte text k (h.0.before k (omega arith) less)) (λ _. ap not h.1))
first_quote text None n h e =
    e ∙ sym (prefix_len_is is_plain text (length text) 0 (omega arith) (λ k less. other_byte text k (h k (omega arith) less)) (λ less. absurd (omega arith)))
