-- The words behind the program's name. One is the mode, and the others are options with their values.
use Rattle.std.specs.Prelude.{ℕ, ◌==◌, ◌&&◌, Bool, true, not, List, [], ◌∷◌, Option, Some, None, codes, option_map, if◌then◌else◌, bytes_eq}
use Rattle.std.specs.List.{list_any, before_first, after_first}

-- a text, as its bytes
abbrev pub Text : Type 0
Text = List ℕ

-- the byte `-`
abbrev pub is_hyphen : ℕ → Bool
is_hyphen byte = byte == 45

-- the byte `=`
abbrev pub is_equals : ℕ → Bool
is_equals byte = byte == 61

-- the options, each of which has a value
abbrev pub option_names : List Text
option_names =
    codes "exchanges" ∷ codes "listen" ∷ codes "table" ∷ codes "seed" ∷ codes "rows" ∷ codes "workers" ∷ codes "journal" ∷ codes "sqlite" ∷ []

abbrev pub is_option : Text → Bool
is_option name = list_any (λ x. bytes_eq x name) option_names

-- the name under which the mode stands among the uses, which no option has
abbrev pub mode_name : Text
mode_name = codes "mode"

-- a name with its value
abbrev pub Use : Type 0
Use = Text × Text

-- what a word is by itself
pub data Form : Type 0 where
  -- `--name=value`, where the name is an option's
  with_value : Text → Text → Form
  -- `--name`, where the name is an option's
  awaiting : Text → Form
  -- it does not begin with a hyphen
  plain : Form
  -- any other word
  stray : Form

-- what a word is by what stands behind its two hyphens
abbrev pub option_form : Text → Form
option_form text =
    if not (is_option (before_first is_equals text)) then stray
    else if list_any is_equals text then with_value (before_first is_equals text) (after_first is_equals text)
    else awaiting (before_first is_equals text)

-- and by what stands behind its first hyphen
abbrev pub hyphened_form : Text → Form
hyphened_form [] = stray
hyphened_form (byte ∷ text) = if is_hyphen byte then option_form text else stray

abbrev pub form_of : Text → Form
form_of [] = plain
form_of (byte ∷ text) = if is_hyphen byte then hyphened_form text else plain

abbrev pub with_use : Use → Option (List Use) → Option (List Use)
with_use one = option_map (λ uses. one ∷ uses)

-- What a word is where the option of a name awaits its value, or none does: its use, or that its option awaits a value, and the rest.
-- The value of `--name` is the next word, which does not begin with a hyphen.
abbrev pub uses_by : Option Text → Text → Form → (Option Text → Option (List Use)) → Option (List Use)
uses_by None word (with_value name value) rest = with_use (name, value) (rest None)
uses_by None word (awaiting name) rest = rest (Some name)
uses_by None word plain rest = with_use (mode_name, word) (rest None)
uses_by (Some name) word plain rest = with_use (name, word) (rest None)
uses_by _ word _ rest = None

-- the uses that words spell, in their order
unfoldable pub uses_of : Option Text → List Text → Option (List Use)
uses_of None [] = Some []
uses_of (Some name) [] = None
uses_of awaited (word ∷ words) = uses_by awaited word (form_of word) (λ next. uses_of next words)

-- no name stands twice
abbrev pub are_once : List Use → Bool
are_once [] = true
are_once (one ∷ uses) = not (list_any (λ other. bytes_eq one.0 other.0) uses) && are_once uses

-- the value of a name
abbrev pub value_of : Text → List Use → Option Text
value_of name [] = None
value_of name (one ∷ uses) = if bytes_eq one.0 name then Some one.1 else value_of name uses
