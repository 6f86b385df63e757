-- Bytes counted in 64 bits.
use Rattle.std.proofs.Common.{◌≡◌, ℕ, ◌+◌, List, sym, ap, ap₂, ◌∙◌, arith}
use Rattle.row_model.specs.declared.row.Row.{Row}
use Rattle.plain_engine.specs.declared.totals.Totals.{Totals}
use Rattle.row_model.specs.Change.{Elsewhere, rows_side_bytes, rows_vector_bytes}
use Rattle.row_model.specs.Rows.{with_row}
use Rattle.plain_engine.specs.inner.ByteTotals.{capped, total_beside}
use Rattle.row_model.specs.Values.{row_side_bytes, row_vector_bytes}
use Rattle.plain_engine.proofs.TopLaws.{sum-with_row}

capped_more : (base old row : ℕ) → capped (capped (base + old) + capped row) ≡ capped (base + (row + old))
capped_more base old row = omega arith

abbrev pub totals_of : ℕ → ℕ → Totals
totals_of vectors sides = record { vectors = vectors; sides = sides }

-- a sum that is put to what is counted, which is that of a row
pub total_with : (other : Elsewhere) (rows : List Row) (row : Row) (self : Totals) (vectors sides : ℕ) → self ≡ total_beside other rows →
    vectors ≡ capped (self.vectors + capped (row_vector_bytes row)) → sides ≡ capped (self.sides + capped (row_side_bytes row)) →
    totals_of vectors sides ≡ total_beside other (with_row row rows)
total_with other rows row self vectors sides is v s =
    let vectors_are : vectors ≡ capped (other.vectors + rows_vector_bytes (with_row row rows)) =
    v ∙ ap (λ (t : Totals). capped (t.vectors + capped (row_vector_bytes row))) is
    ∙ capped_more other.vectors (rows_vector_bytes rows) (row_vector_bytes row)
    ∙ ap (λ (n : ℕ). capped (other.vectors + n)) (sym (sum-with_row row_vector_bytes row rows)) in
    let sides_are : sides ≡ capped (other.sides + rows_side_bytes (with_row row rows)) =
    s ∙ ap (λ (t : Totals). capped (t.sides + capped (row_side_bytes row))) is
    ∙ capped_more other.sides (rows_side_bytes rows) (row_side_bytes row)
    ∙ ap (λ (n : ℕ). capped (other.sides + n)) (sym (sum-with_row row_side_bytes row rows)) in
    ap₂ totals_of vectors_are sides_are
