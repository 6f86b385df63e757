-- How long the body of a request is, by the fields of its head.
use Rattle.std.specs.Prelude.{ℕ, List, [], ◌∷◌, Option, Some, None, codes, map, if◌then◌else◌, bytes_eq}
use Rattle.std.specs.Char.{to_ascii_lowercase}
use Rattle.http_requests.specs.declared.framing.TheConstants.{MOST_LENGTH}
use Rattle.http_requests.specs.declared.framing.Framing.{Framing}
use Rattle.http_requests.specs.declared.framing.Framing.TheVariants as framing
use Rattle.http_requests.specs.Numbers.{number_in}

-- a name in lower case
abbrev pub lowered : List ℕ → List ℕ
lowered name = map to_ascii_lowercase name

-- the length of a value of 1 to 10 digits
abbrev pub length_given : Option ℕ → Framing
length_given None = framing.Bad
length_given (Some n) = framing.Length n

-- what a first field `Content-Length`, and a second one, make of what is known
abbrev pub with_length : List ℕ → Framing → Framing
with_length value framing.Unknown = length_given (number_in 0 MOST_LENGTH value)
with_length value (framing.Length n) = framing.Bad
with_length value framing.Bad = framing.Bad

-- what one field more says; names are compared without regard to case
abbrev pub after_field : Framing → List ℕ → List ℕ → Framing
after_field known name value =
    if bytes_eq (lowered name) (codes "transfer-encoding") then framing.Bad
    else if bytes_eq (lowered name) (codes "content-length") then with_length value known
    else known

-- what all fields say, each with its name and its value
unfoldable pub framing_from : Framing → List (List ℕ × List ℕ) → Framing
framing_from known [] = known
framing_from known (field ∷ fields) = framing_from (after_field known field.0 field.1) fields

abbrev pub framing_of : List (List ℕ × List ℕ) → Framing
framing_of fields = framing_from framing.Unknown fields
