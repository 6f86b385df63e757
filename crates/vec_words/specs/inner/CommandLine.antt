-- The command that `clap` reads the words for, and the words that it would take though the program does not.
use Rattle.std.specs.Prelude.{◌&&◌, Bool, true, false, not, List, [], ◌∷◌, Some, codes}
use Rattle.std.specs.List.{list_any}
use Rattle.clap.specs.Walk.{Rule}
use Rattle.clap.specs.Simple.{App, new_rule, new_shape}
use Rattle.vec_words.specs.Uses.{Text, is_hyphen, mode_name}

-- an option with one value
abbrev pub option_rule : Text → Rule
option_rule name = record (new_rule name) { long = Some name }

abbrev pub command_rules : List Rule
command_rules =
    new_rule mode_name ∷ option_rule (codes "exchanges") ∷ option_rule (codes "listen") ∷ option_rule (codes "table") ∷ option_rule (codes "seed")
    ∷ option_rule (codes "rows") ∷ option_rule (codes "workers") ∷ option_rule (codes "journal") ∷ option_rule (codes "sqlite") ∷ []

-- one word that is the mode, and no help
abbrev pub mode_line : App
mode_line = record { top = record (new_shape (codes "vec_server")) { rules = new_rule mode_name ∷ []; disable_help_flag = true }; subs = [] }

-- that word and the options
abbrev pub command_line : App
command_line = record { top = record (new_shape (codes "vec_server")) { rules = command_rules; disable_help_flag = true }; subs = [] }

-- what stands behind a first hyphen is not a second one with something behind it
abbrev pub is_short_behind : Text → Bool
is_short_behind [] = true
is_short_behind (byte ∷ []) = true
is_short_behind (byte ∷ next ∷ text) = not (is_hyphen byte)

-- `-`, `--`, or one hyphen with other bytes behind it
abbrev pub is_short : Text → Bool
is_short [] = false
is_short (byte ∷ text) = is_hyphen byte && is_short_behind text

abbrev pub has_short_word : List Text → Bool
has_short_word = list_any is_short
