use Rattle.std.proofs.Common.{◌≡◌, ◌+◌, drop}
use Rattle.std.specs.List.{position_from}
use Rattle.grammar.specs.Grammar.{is_in_any_case}
use Rattle.grammar.proofs.words.number_in.Given as goal

abbrev pub invariant-loop-known : goal.invariant-loop-known
invariant-loop-known l =
    (l.number ≡ l.known-index + 1)
    × (position_from (λ known. is_in_any_case l.fn.word known.now) l.number (drop l.known-index l.words)
    ≡ position_from (λ known. is_in_any_case l.fn.word known.now) 1 l.words)
