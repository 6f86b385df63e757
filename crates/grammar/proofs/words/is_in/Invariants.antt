use Rattle.std.proofs.Common.{◌≡◌, drop}
use Rattle.std.specs.List.{list_any}
use Rattle.grammar.specs.Grammar.{is_in_any_case}
use Rattle.grammar.proofs.words.is_in.Given as goal

abbrev pub invariant-loop-known : goal.invariant-loop-known
invariant-loop-known l =
    list_any (λ known. is_in_any_case l.fn.word known.now) (drop l.known-index l.words)
    ≡ list_any (λ known. is_in_any_case l.fn.word known.now) l.words
