-- The uses of words as `clap` goes over them: a second word that is no option is refused at its place.
use Rattle.std.proofs.Common.{Bool, true, List, [], ◌∷◌, Option, Some, None}
use Rattle.std.specs.Prelude.{if◌then◌else◌}
use Rattle.clap.specs.Lexer.{long_of, short_of}
use Rattle.vec_words.specs.Uses.{Text, Use, is_option, mode_name, with_use}

-- what a word is where the mode has or has not been met, and an option may await its value
abbrev pub word_as : Bool → Option Text → Text → Option (Text × Option Text) → Option Text → (Bool → Option Text → Option (List Use)) → Option (List Use)
word_as met None word (Some (name, Some value)) short rest = if is_option name then with_use (name, value) (rest met None) else None
word_as met None word (Some (name, None)) short rest = if is_option name then rest met (Some name) else None
word_as met None word None (Some flags) rest = None
word_as met None word None None rest = if met then None else with_use (mode_name, word) (rest true None)
word_as met (Some awaited) word (Some long) short rest = None
word_as met (Some awaited) word None (Some flags) rest = None
word_as met (Some awaited) word None None rest = with_use (awaited, word) (rest met None)

-- the uses of some words
unfoldable pub scan : Bool → Option Text → List Text → Option (List Use)
scan met None [] = Some []
scan met (Some awaited) [] = None
scan met awaited (word ∷ words) = word_as met awaited word (long_of word) (short_of word) (λ m a. scan m a words)
