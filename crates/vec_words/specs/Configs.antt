-- The configuration that the words of the command line spell. The first word is the program's name.
use Rattle.std.specs.Prelude.{ℕ, ◌^◌, ◌-◌, Bool, ◌&&◌, ◌||◌, List, [], ◌∷◌, Option, Some, None, codes, drop, length, map, nat_lt, nat_le, is_some, option_map, option_and_then, unwrap_or, if◌then◌else◌, bytes_eq}
use Rattle.std.specs.List.{list_all}
use Rattle.std.specs.Char.{is_ascii_digit, to_ascii_lowercase}
use Rattle.std.specs.Str.Parse.{digits_value}
use Rattle.vec_base.specs.Words.{is_name}
use Rattle.vec_words.specs.declared.config.TheConstants.{DEFAULT_LISTEN, MOST_EXCHANGES, MOST_SAMPLE_ROWS, MOST_WORKERS}
use Rattle.vec_words.specs.declared.config.Config.{Config}
use Rattle.vec_words.specs.declared.config.Mode.{Mode}
use Rattle.vec_words.specs.declared.config.Mode.TheVariants as modes
use Rattle.vec_words.specs.declared.config.Store.{Store}
use Rattle.vec_words.specs.declared.config.Store.TheVariants as stores
use Rattle.vec_words.specs.Uses.{Text, Use, are_once, mode_name, uses_of, value_of}

-- what is given for the mode and for each option
pub record Values : Type 0 where
  pub mode : Option Text
  pub exchanges : Option Text
  pub listen : Option Text
  pub table : Option Text
  pub seed : Option Text
  pub rows : Option Text
  pub workers : Option Text
  pub journal : Option Text
  pub sqlite : Option Text

abbrev pub values_by : (Text → Option Text) → Values
values_by value = record {
  mode = value mode_name;
  exchanges = value (codes "exchanges");
  listen = value (codes "listen");
  table = value (codes "table");
  seed = value (codes "seed");
  rows = value (codes "rows");
  workers = value (codes "workers");
  journal = value (codes "journal");
  sqlite = value (codes "sqlite");
}

abbrev pub values_of : List Use → Values
values_of uses = values_by (λ name. value_of name uses)

-- ---- single values

-- 1 to 20 decimal digits
abbrev pub is_numeral : Text → Bool
is_numeral text = nat_lt 0 (length text) && nat_le (length text) 20 && list_all is_ascii_digit text

-- the number that a text spells, from `low` to `high`
abbrev pub number_in : ℕ → ℕ → Text → Option ℕ
number_in low high text =
    if is_numeral text && nat_le low (digits_value 10 text) && nat_le (digits_value 10 text) high then Some (digits_value 10 text) else None

-- the number that is given, or the one that stands for none
abbrev pub number_or : ℕ → ℕ → ℕ → Option Text → Option ℕ
number_or default low high None = Some default
number_or default low high (Some text) = number_in low high text

-- a name, in any case, is kept in lower case
abbrev pub name_in : Text → Option Text
name_in text = if is_name (map to_ascii_lowercase text) then Some (map to_ascii_lowercase text) else None

-- a path has a byte
abbrev pub path_in : Text → Option Text
path_in [] = None
path_in (byte ∷ text) = Some (byte ∷ text)

-- ---- modes, each with the options that go with it alone

-- an option of `serve` is given
abbrev pub has_of_serve : Values → Bool
has_of_serve v = is_some v.exchanges || is_some v.listen

-- an option of `sample` is given
abbrev pub has_of_sample : Values → Bool
has_of_sample v = is_some v.seed || is_some v.rows

-- `serve`, with `--exchanges` and `--listen`
abbrev pub serve_of : Values → Option Mode
serve_of v =
    if is_some v.table || has_of_sample v then None
    else option_map modes.Serve (number_or MOST_EXCHANGES 1 MOST_EXCHANGES v.exchanges)

-- `shell`
abbrev pub shell_of : Values → Option Mode
shell_of v = if has_of_serve v || is_some v.table || has_of_sample v then None else Some modes.Shell

-- the table of `load` and `dump`, with `--table`, which is needed
abbrev pub table_of : Values → Option Text
table_of v = if has_of_serve v || has_of_sample v then None else option_and_then name_in v.table

-- `sample`, with `--seed` and `--rows`, which are needed
abbrev pub sample_of : Values → Option Mode
sample_of v =
    if has_of_serve v || is_some v.table then None
    else option_and_then
    (λ seed. option_map (modes.Sample seed) (option_and_then (number_in 1 MOST_SAMPLE_ROWS) v.rows))
    (option_and_then (number_in 0 (2 ^ 64 - 1)) v.seed)

abbrev pub mode_at : Values → Text → Option Mode
mode_at v word =
    if bytes_eq word (codes "serve") then serve_of v
    else if bytes_eq word (codes "shell") then shell_of v
    else if bytes_eq word (codes "load") then option_map modes.Load (table_of v)
    else if bytes_eq word (codes "dump") then option_map modes.Dump (table_of v)
    else if bytes_eq word (codes "sample") then sample_of v
    else None

-- ---- the whole

-- the store, of which one is named at most
abbrev pub store_of : Option Text → Option Text → Option Store
store_of None None = Some stores.InMemory
store_of (Some path) None = option_map stores.Journal (path_in path)
store_of None (Some path) = option_map stores.Sqlite (path_in path)
store_of (Some path) (Some other) = None

-- the mode that is named, with the options that go with it
abbrev pub mode_of : Values → Option Mode
mode_of v = option_and_then (mode_at v) v.mode

-- a configuration has a mode, a store and a number of workers; the address that is given is not looked at
abbrev pub config_from : Values → Option Mode → Option Store → Option ℕ → Option Config
config_from v (Some mode) (Some store) (Some workers) =
    Some (record { mode = mode; store = store; workers = workers; listen = unwrap_or v.listen DEFAULT_LISTEN.now })
config_from v _ _ _ = None

-- the configuration of these values
abbrev pub config_at : Values → Option Config
config_at v = config_from v (mode_of v) (store_of v.journal v.sqlite) (number_or 1 1 MOST_WORKERS v.workers)

-- and of these uses
abbrev pub config_by : List Use → Option Config
config_by uses = if are_once uses then config_at (values_of uses) else None

-- what the words spell, if they spell a configuration
abbrev pub config_of : List Text → Option Config
config_of words = option_and_then config_by (uses_of None (drop 1 words))
