-- The values that `clap` found, and those that are held.
use Rattle.std.specs.Prelude.{Option, option_map}
use Rattle.std.specs.Borrow.{Bor}
use Rattle.clap.specs.Matches.{first_value}
use Rattle.clap.specs.declared.parser.matches.Found.{Found}
use Rattle.vec_words.specs.declared.given.Given.{Given}
use Rattle.vec_words.specs.Configs.{Values, values_by}
use Rattle.vec_words.specs.Uses.{Text}

-- the text that is lent
abbrev pub lent : Option (Bor Text) → Option Text
lent = option_map (λ text. text.now)

abbrev pub values_in : Given → Values
values_in given = record {
  mode = lent given.mode;
  exchanges = lent given.exchanges;
  listen = lent given.listen;
  table = lent given.table;
  seed = lent given.seed;
  rows = lent given.rows;
  workers = lent given.workers;
  journal = lent given.journal;
  sqlite = lent given.sqlite;
}

abbrev pub values_found : Found → Values
values_found found = values_by (first_value found)
