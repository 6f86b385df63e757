use Rattle.std.proofs.Common.{◌≡◌, ◌∙◌, ap₂, refl, sym, true, false, Bool, take, List, ℕ}
use Rattle.std.specs.Prelude.{◌||◌, bytes_eq}
use Rattle.std.specs.List.{list_any}
use Rattle.std.proofs.lemmas.List.Folds.{list_any-append}
use Rattle.vec_base.specs.Words.{is_reserved, statement_words, unsupported_words}
use Rattle.vec_base.specs.declared.words.TheConstants.{RESERVED_UNSUPPORTED}
use Rattle.vec_words.proofs.name.is_taken.Goals as goal

taken : (word : List ℕ) (a b : Bool) → a ≡ list_any (bytes_eq word) statement_words → b ≡ list_any (bytes_eq word) (take RESERVED_UNSUPPORTED unsupported_words)
    → (a || b) ≡ is_reserved word
unfolding is_reserved
taken word a b first second = ap₂ (λ (x y : Bool). x || y) first second ∙ sym (list_any-append (bytes_eq word) statement_words (take RESERVED_UNSUPPORTED unsupported_words))

pub returns-then-is_among : goal.returns-then-is_among
returns-then-is_among c =
    c.if-is_among.true ∙ taken c.args.word.now true _ (sym c.if-is_among.true ∙ c.is_among.ensures) refl

pub returns-else-is_among : goal.returns-else-is_among
returns-else-is_among c = taken c.args.word.now false _ (sym c.if-is_among.false ∙ c.is_among.ensures) c.is_among-else-is_among.ensures
