-- What the JSON bodies of requests say: a statement with its parameters, or a count of rows.
use Rattle.std.specs.Prelude.{◌≡◌, ◌-◌, ◌&&◌, ℕ, ℤ, pos, negsuc, Bool, true, false, List, [], ◌∷◌, Option, Some, None, Result, Ok, Err, option_map, option_and_then, if◌then◌else◌, nat_le, nat_lt, codes, ⊤}
use Rattle.std.specs.Str.{is_utf8}
use Rattle.std.specs.Result.{result_ok}
use Rattle.hex.specs.Hex.{decode_of}
use Rattle.serde_json.specs.Data.{Data, null, boolean, number, string, array, object, Items, no_items, item, Members, no_members, member}
use Rattle.serde_json.specs.Read.{read}
use Rattle.serde_json.specs.Find.{as_i64, as_number, as_str, get, get_member}
use Rattle.vec_base.specs.declared.limits.TheConstants.{MOST_REPLY_ROWS}
use Rattle.vec_base.specs.declared.value.Value.{Value}
use Rattle.vec_base.specs.declared.value.Value.TheVariants as value
use Rattle.http_bodies.specs.declared.body.BodyFault.{BodyFault}
use Rattle.http_bodies.specs.declared.body.BodyFault.TheVariants.{Form, Memory}
use Rattle.http_bodies.specs.declared.body.StatementBody.{StatementBody}

-- ---- answers

-- an error stands for a body that is not of its form, or for want of memory, which is tied to nothing
abbrev pub Denies : {A : Type 0} → BodyFault → Option A → Type 0
Denies Form said = said ≡ None
Denies Memory said = ⊤

-- exactly what the body says, or that it is not of its form, or want of memory
abbrev pub Tells : {A : Type 0} → Result A BodyFault → Option A → Type 0
Tells (Ok x) said = said ≡ Some x
Tells (Err fault) said = Denies fault said

-- the same of an answer that stands for something else
abbrev pub TellsAs : {A B : Type 0} → (A → B) → Result A BodyFault → Option B → Type 0
TellsAs view (Ok x) said = said ≡ Some (view x)
TellsAs view (Err fault) said = Denies fault said

-- ---- the JSON value

-- the value of RFC 8259 that the bytes spell, where they are UTF-8
abbrev pub json_at : List ℕ → Option Data
json_at bytes = if is_utf8 bytes then read bytes else None

-- all items of an array, where each of them can be read
unfoldable pub all_items : {A : Type 0} → (Data → Option A) → Items → Option (List A)
all_items read_one no_items = Some []
all_items read_one (item d ds) = option_and_then (λ x. option_map (λ xs. x ∷ xs) (all_items read_one ds)) (read_one d)

-- ---- parameters

-- the byte of an element from -128 to 127
abbrev pub element_byte : ℤ → Option ℕ
element_byte (pos n) = if nat_lt n 128 then Some n else None
element_byte (negsuc n) = if nat_lt n 128 then Some (255 - n) else None

abbrev pub element_at : Data → Option ℕ
element_at d = option_and_then element_byte (option_and_then as_i64 (as_number d))

-- the elements of an int8 vector
abbrev pub elements_at : Items → Option (List ℕ)
elements_at ds = all_items element_at ds

-- the bytes of a string of hexadecimal digits, two for each
abbrev pub digits_at : Data → Option (List ℕ)
digits_at d = option_and_then (λ s. result_ok (decode_of s)) (as_str d)

-- an object has exactly one member
abbrev pub has_one : Members → Bool
has_one no_members = false
has_one (member name d no_members) = true
has_one (member name d (member other e ms)) = false

-- the bits of the member `bits`
abbrev pub bits_at : Option Data → Option Value
bits_at None = None
bits_at (Some d) = option_map value.Bits (digits_at d)

-- the blob of the member `hex`, or else the bits of the member `bits`
abbrev pub spelled_value : Option Data → Option Data → Option Value
spelled_value None bits = bits_at bits
spelled_value (Some d) bits = option_map value.Blob (digits_at d)

-- the value that a parameter stands for
unfoldable pub param_at : Data → Option Value
param_at null = Some value.Null
param_at (boolean b) = Some (value.Int (if b then pos 1 else pos 0))
param_at (number n) = option_map value.Int (as_i64 n)
param_at (string s) = Some (value.Text s)
param_at (array ds) = option_map value.Int8 (elements_at ds)
param_at (object ms) =
    if has_one ms then spelled_value (get_member (codes "hex") ms) (get_member (codes "bits") ms) else None

abbrev pub params_at : Items → Option (List Value)
params_at ds = all_items param_at ds

-- the member `params`: an array, or none where it is missing
unfoldable pub params_member : Option Data → Option (List Value)
params_member None = Some []
params_member (Some null) = None
params_member (Some (boolean b)) = None
params_member (Some (number n)) = None
params_member (Some (string s)) = None
params_member (Some (array ds)) = params_at ds
params_member (Some (object ms)) = None

-- ---- bodies

-- the statement of an object with the string `sql` and maybe the array `params`
unfoldable pub statement_in : Data → Option StatementBody
statement_in d =
    option_and_then (λ s. option_map (λ ps. record { sql = s; params = ps }) (params_member (get (codes "params") d)))
    (option_and_then as_str (get (codes "sql") d))

unfoldable pub statement_of : List ℕ → Option StatementBody
statement_of bytes = option_and_then statement_in (json_at bytes)

-- the count of an object with the integer `count`, from 1 to the most rows of a reply
abbrev pub counted : ℤ → Option ℕ
counted (pos n) = if nat_le 1 n && nat_le n MOST_REPLY_ROWS then Some n else None
counted (negsuc n) = None

abbrev pub count_in : Data → Option ℕ
count_in d = option_and_then counted (option_and_then as_i64 (option_and_then as_number (get (codes "count") d)))

unfoldable pub count_of : List ℕ → Option ℕ
count_of bytes = option_and_then count_in (json_at bytes)
