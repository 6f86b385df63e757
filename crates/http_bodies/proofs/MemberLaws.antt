-- Objects with one member, and bytes that spell no JSON value.
use Rattle.std.proofs.Common.{◌≡◌, ℕ, List, [], ◌∷◌, Option, Some, None, option_map, length, refl, sym, ap, ◌∙◌, subst, arith, cond}
use Rattle.std.specs.Prelude.{codes, IsUtf8, Bool, true, false, String}
use Rattle.std.specs.Str.{is_utf8}
use Rattle.std.specs.declared.alloc.Global.{Global}
use Rattle.std.proofs.lemmas.Str.{IsUtf8-from_is_utf8, is_utf8-from_IsUtf8}
use Rattle.serde_json.specs.Data.{Data, object}
use Rattle.serde_json.specs.Read.{read}
use Rattle.serde_json.specs.Find.{get}
use Rattle.serde_json.specs.View.{members_view}
use Rattle.serde_json.specs.declared.value.Value.{Value as Json}
use Rattle.vec_base.specs.declared.value.Value.TheVariants as value
use Rattle.http_bodies.specs.Bodies.{bits_at, digits_at, spelled_value, json_at, param_at}

-- an object with no member or with several is no parameter
pub not_one : (members : List (String Global × Json)) → (length members ≡ 1 → ⊥) → param_at (object (members_view members)) ≡ None
unfolding param_at
not_one [] many = refl
not_one (m ∷ []) many = absurd (many refl)
not_one (m ∷ n ∷ members) many = refl

one_member : (members : List (String Global × Json)) → length members ≡ 1
    → param_at (object (members_view members))
    ≡ spelled_value (get (codes "hex") (object (members_view members))) (get (codes "bits") (object (members_view members)))
unfolding param_at
one_member [] one = absurd (omega arith)
one_member (m ∷ []) one = refl
one_member (m ∷ n ∷ members) one = absurd (omega arith)

-- the parameter of an object with one member is told by its members `hex` and `bits`
pub by_digits : (d : Data) (members : List (String Global × Json)) → d ≡ object (members_view members) → length members ≡ 1
    → param_at d ≡ spelled_value (get (codes "hex") d) (get (codes "bits") d)
by_digits d members is one =
    subst (λ (e : Data). param_at e ≡ spelled_value (get (codes "hex") e) (get (codes "bits") e)) (sym is) (one_member members one)

pub hex_read : (bits : Option Data) (hex : Option Data) (d : Data) (bytes : List ℕ) → hex ≡ Some d → digits_at d ≡ Some bytes
    → spelled_value hex bits ≡ Some (value.Blob bytes)
hex_read bits hex d bytes is reads = ap (λ h. spelled_value h bits) is ∙ ap (option_map value.Blob) reads

pub bits_read : (bits : Option Data) (hex : Option Data) (d : Data) (bytes : List ℕ) → hex ≡ None → bits ≡ Some d → digits_at d ≡ Some bytes
    → spelled_value hex bits ≡ Some (value.Bits bytes)
bits_read bits hex d bytes none is reads =
    ap (λ h. spelled_value h bits) none ∙ ap bits_at is ∙ ap (option_map value.Bits) reads

pub json_read : (bytes : List ℕ) (d : Data) → IsUtf8 bytes → read bytes ≡ Some d → json_at bytes ≡ Some d
json_read bytes d text reads = rw (is_utf8-from_IsUtf8 bytes text) reads

pub no_json : (bytes : List ℕ) → (IsUtf8 bytes → read bytes ≡ None) → json_at bytes ≡ None
no_json bytes none = by_text (is_utf8 bytes) refl
  where
    by_text : (is_text : Bool) → is_utf8 bytes ≡ is_text → cond is_text (read bytes) None ≡ None
    by_text true text = none (IsUtf8-from_is_utf8 bytes text)
    by_text false text = refl
