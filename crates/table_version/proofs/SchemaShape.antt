-- The chunk size of a valid schema.
use Rattle.std.proofs.Common.{◌≡◌, ℕ, ◌≤◌, Bool, true, false, List, [], ◌∷◌, ◌++◌, refl, Option, Some, None}
use Rattle.std.specs.Prelude.{◌==◌, ◌%◌, ◌&&◌, nat_lt, nat_le, if◌then◌else◌}
use Rattle.std.proofs.lemmas.Bool.{and_parts, eqb-true, leb-true}
use Rattle.vec_base.specs.declared.limits.TheConstants.{MOST_CHUNK_SIZE}
use Rattle.row_model.specs.Schemas.{is_key, is_vector, is_partition, is_metadata, is_auxiliary, count_of, has_some, has_twins, takes_hidden_name, is_misfit_int8, is_misfit_bits, is_misfit_chunk, is_eights, IsValidSchema}
use Rattle.row_model.specs.declared.schema.Schema.{Schema}
use Rattle.row_model.proofs.BoolLaws.{not_false}

-- the first rule whose test is passed
abbrev broken : List (Bool × ℕ) → Option ℕ
broken [] = None
broken (t ∷ ts) = if t.0 then Some t.1 else broken ts

last_whole : (ts : List (Bool × ℕ)) (b : Bool) (n : ℕ) → broken (ts ++ (b, n) ∷ []) ≡ None → b ≡ false
last_whole [] true n h = absurd cc
last_whole [] false n h = refl
last_whole (t ∷ ts) b n h =
    elim t.0 as (λ c. (if c then Some t.1 else broken (ts ++ (b, n) ∷ [])) ≡ None → b ≡ false)
    [ true ↦ λ e. absurd cc | false ↦ λ e. last_whole ts b n e ] h

-- the rules before that of the chunk size
abbrev tests_before : Schema → List (Bool × ℕ)
tests_before schema =
    (count_of is_vector schema.columns == 0, 1) ∷ (nat_lt 16 (count_of is_vector schema.columns), 2) ∷ (nat_lt 4 (count_of is_partition schema.columns), 3) ∷
    (nat_lt 16 (count_of is_metadata schema.columns), 4) ∷ (nat_lt 16 (count_of is_auxiliary schema.columns), 5) ∷ (nat_lt 1 (count_of is_key schema.columns), 6) ∷
    (has_twins schema.columns, 7) ∷ (takes_hidden_name schema.columns, 8) ∷ (has_some is_misfit_int8 schema.columns, 9) ∷ (has_some is_misfit_bits schema.columns, 10) ∷ []

-- a multiple of 8, from 8 up to the most
pub record IsSize (size : ℕ) : Type 0 where
  pub eights : size % 8 ≡ 0
  pub least : 8 ≤ size
  pub most : size ≤ MOST_CHUNK_SIZE

pub chunk-size : (schema : Schema) → IsValidSchema schema → IsSize schema.chunk_size
chunk-size schema valid =
    let size = schema.chunk_size in
    let fits = not_false (is_eights MOST_CHUNK_SIZE size) (last_whole (tests_before schema) (is_misfit_chunk size) 12 valid.rules) in
    let parts = and_parts (size % 8 == 0 && nat_le 8 size) (nat_le size MOST_CHUNK_SIZE) fits in
    let firsts = and_parts (size % 8 == 0) (nat_le 8 size) parts.0 in
    record { eights = eqb-true (size % 8) 0 firsts.0; least = leb-true 8 size firsts.1; most = leb-true size MOST_CHUNK_SIZE parts.1 }
