use Rattle.std.proofs.Common.{◌≡◌, drop, map}
use Rattle.std.specs.Prelude.{bytes_eq}
use Rattle.std.specs.List.{list_any}
use Rattle.vec_words.proofs.name.is_among.Given as goal

abbrev pub invariant-loop-known : goal.invariant-loop-known
invariant-loop-known l =
    list_any (bytes_eq l.fn.word) (map (λ known. known.now) l.words) ≡ list_any (bytes_eq l.fn.word) (map (λ known. known.now) (drop l.known-index l.words))
