use Rattle.std.proofs.Common.{◌≡◌, drop, map, string_bytes}
use Rattle.vec_words.specs.inner.CommandLine.{has_short_word}
use Rattle.vec_words.proofs.hyphens.has_short_flag.Given as goal

abbrev pub invariant-loop-word : goal.invariant-loop-word
invariant-loop-word l = has_short_word (map string_bytes l.fn.words) ≡ has_short_word (map string_bytes (drop l.word-index l.words))
