use Rattle.std.proofs.Common.{◌≡◌, ◌∙◌, Bool, ap, sym, List, ℕ, take}
use Rattle.std.specs.Prelude.{◌||◌, bytes_eq}
use Rattle.std.specs.List.{list_any}
use Rattle.std.proofs.lemmas.List.Folds.{list_any-append}
use Rattle.vec_base.specs.declared.words.TheConstants.{RESERVED_UNSUPPORTED}
use Rattle.vec_base.specs.Words.{is_reserved, statement_words, unsupported_words}
use Rattle.grammar.specs.Grammar.{lowered}
use Rattle.grammar.proofs.words.is_reserved.Goals as goal

-- a word is reserved by the one table or by the front of the other
by_tables : (w : List ℕ) (first : Bool) → list_any (bytes_eq w) statement_words ≡ first → is_reserved w ≡ (first || list_any (bytes_eq w) (take RESERVED_UNSUPPORTED unsupported_words))
unfolding is_reserved
by_tables w first h =
    list_any-append (bytes_eq w) statement_words (take RESERVED_UNSUPPORTED unsupported_words) ∙
    ap (λ (b : Bool). b || list_any (bytes_eq w) (take RESERVED_UNSUPPORTED unsupported_words)) h

pub returns-then-is_in : goal.returns-then-is_in
returns-then-is_in c = c.if-is_in.true ∙ sym (by_tables (lowered c.args.word.now) _ (sym c.is_in.ensures ∙ c.if-is_in.true))

pub returns-else-is_in : goal.returns-else-is_in
returns-else-is_in c = c.is_in-else-is_in.ensures ∙ sym (by_tables (lowered c.args.word.now) _ (sym c.is_in.ensures ∙ c.if-is_in.false))
