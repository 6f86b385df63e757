-- What reading a column text gives: the schema that it declares, or its refusal.
use Rattle.std.specs.Prelude.{◌≡◌, ℕ, ◌≤◌, ◌⊎◌, List, length, Option, Some, None, Result, Ok, Err}
use Rattle.vec_base.specs.declared.limits.TheConstants.{MOST_TEXT_BYTES}
use Rattle.vec_base.specs.declared.refusal.Refusal.{Refusal}
use Rattle.vec_base.specs.declared.refusal.Refusal.TheVariants.{BadSchema}
use Rattle.vec_literal.specs.Tokens.{Token, tokens}
use Rattle.grammar.specs.FailingToken.{IsTooLong, refusal_of}
use Rattle.grammar.specs.Grammar.{Spells, SpellsFront, FailsAt, FailsInside}
use Rattle.row_model.specs.declared.schema.Schema.{Schema}
use Rattle.vec0_columns.specs.declared.text.Arg.{Arg}
use Rattle.vec0_columns.specs.ColumnGrammar.{columns, enclosed, schema_of, text_fault}

-- ---- parts

abbrev pub answer_by : Option ℕ → Schema → Result Schema Refusal
answer_by None schema = Ok schema
answer_by (Some rule) schema = Err (BadSchema rule)

-- the schema that the parts declare, or the refusal for the rule that they break
abbrev pub answer_of : List Arg → Result Schema Refusal
answer_of parts = answer_by (text_fault parts) (schema_of parts)

-- the parts break a rule, and the refusal is the one for the least such rule
abbrev pub BreakRule : List Arg → Refusal → Type 0
BreakRule parts refusal = (rule : ℕ) × (text_fault parts ≡ Some rule) × (refusal ≡ BadSchema rule)

-- ---- a whole text

-- the text may be read, spells the parts and breaks no rule, and the schema is the one that they declare
pub record Declares (text : List ℕ) (schema : Schema) : Type 0 where
  pub within : length text ≤ MOST_TEXT_BYTES
  pub parts : List Arg
  pub spelled : Spells columns (tokens text 0) parts
  pub rules : text_fault parts ≡ None
  pub declared : schema ≡ schema_of parts

-- the text is no column text, and the refusal is the one for its failing token
abbrev pub FailsAtToken : List ℕ → Refusal → Type 0
FailsAtToken text refusal = (rest : List Token) × FailsAt columns (tokens text 0) rest × (refusal ≡ refusal_of (length text) rest)

-- the text is too long, fails at a token, or spells parts that break a rule
abbrev pub IsRefusal : List ℕ → Refusal → Type 0
IsRefusal text refusal =
    IsTooLong text refusal
    ⊎ ((length text ≤ MOST_TEXT_BYTES) × (FailsAtToken text refusal ⊎ ((parts : List Arg) × Spells columns (tokens text 0) parts × BreakRule parts refusal)))

-- ---- what stands in a text from a place on, up to the parenthesis that closes it

-- the same, where that parenthesis is at the place upto
pub record DeclaresAt (text : List ℕ) (from : ℕ) (schema : Schema) (upto : ℕ) : Type 0 where
  pub within : length text ≤ MOST_TEXT_BYTES
  pub parts : List Arg
  pub closing : Token
  pub rest : List Token
  pub spelled : SpellsFront enclosed (tokens text from) (parts, closing) rest
  pub rules : text_fault parts ≡ None
  pub declared : schema ≡ schema_of parts
  pub place : upto ≡ closing.place

-- no column text with a parenthesis behind it stands there, and the refusal is the one for the failing token
abbrev pub FailsAtTokenFrom : List ℕ → ℕ → Refusal → Type 0
FailsAtTokenFrom text from refusal = (rest : List Token) × FailsInside enclosed (tokens text from) rest × (refusal ≡ refusal_of (length text) rest)

abbrev pub IsRefusalAt : List ℕ → ℕ → Refusal → Type 0
IsRefusalAt text from refusal =
    IsTooLong text refusal
    ⊎ ((length text ≤ MOST_TEXT_BYTES) × (FailsAtTokenFrom text from refusal
    ⊎ ((x : List Arg × Token) × (rest : List Token) × SpellsFront enclosed (tokens text from) x rest × BreakRule x.0 refusal)))

-- the schema with the place at which its text is closed
abbrev pub placed : ℕ → Result Schema Refusal → Result (Schema × ℕ) Refusal
placed place (Ok schema) = Ok (schema, place)
placed place (Err refusal) = Err refusal
