-- The records of a text of comma-separated fields, up to the first that is refused.
use Rattle.std.specs.Prelude.{ℕ, Bool, not, ◌&&◌, ◌||◌, ◌==◌, List, [], ◌∷◌, ◌++◌, length}
use Rattle.std.specs.List.{list_all, take_while}
use Rattle.std.specs.Str.{is_utf8}
use Rattle.csv.specs.Reading.{default_config, records, strip_bom}

-- a record: the bytes of each of its fields
abbrev pub Fields : Type 0
Fields = List (List ℕ)

-- the records of a text as `csv` cuts it, behind a byte order mark if there is one
abbrev pub all_records : List ℕ → List Fields
all_records text = records default_config (strip_bom text)

-- how many fields the first record has
abbrev pub first_width : List Fields → ℕ
first_width [] = 0
first_width (first ∷ rest) = length first

-- the record has so many fields, and each is text in UTF-8
abbrev pub is_good : ℕ → Fields → Bool
is_good width record_fields = length record_fields == width && list_all is_utf8 record_fields

-- the record is taken behind these, of which the first says how many fields it has to have
abbrev pub is_good_behind : List Fields → Fields → Bool
is_good_behind before record_fields = is_good (first_width (before ++ record_fields ∷ [])) record_fields

-- the records before the first that is not taken
abbrev pub good_among : List Fields → List Fields
good_among rows = take_while (is_good (first_width rows)) rows

-- one of them is not taken, or there is none
abbrev pub has_refused : List Fields → Bool
has_refused rows = not (list_all (is_good (first_width rows)) rows) || length rows == 0

-- the good records of a text before the first that is refused
abbrev pub good_records : List ℕ → List Fields
good_records text = good_among (all_records text)

-- the record behind the good ones is refused, whose number is that of the good ones
abbrev pub is_refused : List ℕ → Bool
is_refused text = has_refused (all_records text)
