-- What a valid schema says of its keys and of its chunk size.
use Rattle.std.proofs.Common.{◌≡◌, ℕ, zero, suc, ◌≤◌, ◌%◌, ◌==◌, List, [], ◌∷◌, get_or, Bool, true, false, not, cond, ◌&&◌, nat_lt, nat_le, refl, sym}
use Rattle.std.specs.declared.option.Option.{Option}
use Rattle.std.specs.declared.option.Option.TheVariants.{Some, None}
use Rattle.std.proofs.lemmas.Bool.{and_parts, false≢true, ltb-false, leb-true, eqb-true}
use Rattle.row_model.specs.declared.schema.Schema.{Schema}
use Rattle.row_model.specs.Schemas.{schema_fault, is_key, is_vector, is_partition, is_metadata, is_auxiliary, count_of, is_eights, is_misfit_chunk, has_twins, takes_hidden_name, has_some, is_misfit_int8, is_misfit_bits}

pub record FitsChunks (schema : Schema) : Type 0 where
  pub keys : count_of is_key schema.columns ≤ 1
  pub eights : schema.chunk_size % 8 ≡ 0
  pub most : schema.chunk_size ≤ 4096

misfit : (size : ℕ) → is_misfit_chunk size ≡ false → (size % 8 ≡ 0) × (size ≤ 4096)
misfit size e = by (is_eights 4096 size) refl e where
  by : (b : Bool) → is_eights 4096 size ≡ b → not b ≡ false → (size % 8 ≡ 0) × (size ≤ 4096)
  by true f g = (let p = and_parts (size % 8 == 0 && nat_le 8 size) (nat_le size 4096) f in (eqb-true (size % 8) 0 (and_parts (size % 8 == 0) (nat_le 8 size) p.0).0, leb-true size 4096 p.1))
  by false f g = absurd (false≢true (sym g))

abbrev first_fault : List (Bool × ℕ) → Option ℕ
first_fault [] = None
first_fault (t ∷ ts) = cond t.0 (Some t.1) (first_fault ts)

none_over : (b : Bool) (k : ℕ) (rest : Option ℕ) → cond b (Some k) rest ≡ None → (b ≡ false) × (rest ≡ None)
none_over true k rest e = absurd cc
none_over false k rest e = (refl, e)

none_at : (ts : List (Bool × ℕ)) (k : ℕ) → first_fault ts ≡ None → (get_or ts k (false, 0)).0 ≡ false
none_at [] zero e = refl
none_at [] (suc k) e = refl
none_at (t ∷ ts) zero e = (none_over t.0 t.1 (first_fault ts) e).0
none_at (t ∷ ts) (suc k) e = none_at ts k (none_over t.0 t.1 (first_fault ts) e).1

-- the tests in the order of the rules
abbrev tests : Schema → List (Bool × ℕ)
tests schema =
    (count_of is_vector schema.columns == 0, 1) ∷ (nat_lt 16 (count_of is_vector schema.columns), 2) ∷ (nat_lt 4 (count_of is_partition schema.columns), 3)
    ∷ (nat_lt 16 (count_of is_metadata schema.columns), 4) ∷ (nat_lt 16 (count_of is_auxiliary schema.columns), 5) ∷ (nat_lt 1 (count_of is_key schema.columns), 6)
    ∷ (has_twins schema.columns, 7) ∷ (takes_hidden_name schema.columns, 8) ∷ (has_some is_misfit_int8 schema.columns, 9) ∷ (has_some is_misfit_bits schema.columns, 10)
    ∷ (is_misfit_chunk schema.chunk_size, 12) ∷ []

pub fits_chunks : (schema : Schema) → schema_fault schema ≡ None → FitsChunks schema
fits_chunks schema e =
    let m = misfit schema.chunk_size (none_at (tests schema) 10 e) in
    record { keys = ltb-false 1 (count_of is_key schema.columns) (none_at (tests schema) 5 e); eights = m.0; most = m.1 }
