use Rattle.std.proofs.Common.{◌≤◌, ℕ, List, length, true, sym, subst}
use Rattle.vec_literal.specs.declared.token.TokenSort.TheVariants as sorts
use Rattle.grammar.specs.inner.ReaderResults.{spelled_rest, first_of}
use Rattle.grammar.proofs.Numbering.{sort_spelled, param_some}
use Rattle.grammar.proofs.reader.Reader.digits.Goals as goal

pub slice_bounds-result-count : goal.slice_bounds-result-count
slice_bounds-result-count c =
    subst (λ (z : List ℕ). 1 ≤ length z) (sym c.spelling.ensures.value)
    (param_some (first_of (spelled_rest c.args.self.now)) (sort_spelled sorts.Param c.args.self.now.greatest (spelled_rest c.args.self.now) true c.requires) c.spelling.ensures.parameter)

pub slice_bounds-result-start : goal.slice_bounds-result-start
slice_bounds-result-start c =
    subst (λ (z : List ℕ). 1 ≤ length z) (sym c.spelling.ensures.value)
    (param_some (first_of (spelled_rest c.args.self.now)) (sort_spelled sorts.Param c.args.self.now.greatest (spelled_rest c.args.self.now) true c.requires) c.spelling.ensures.parameter)
