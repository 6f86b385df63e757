-- Bytes counted in 64 bits while rows go into a table.
use Rattle.std.specs.Prelude.{ℕ, ◌+◌, min, List}
use Rattle.row_model.specs.declared.row.Row.{Row}
use Rattle.plain_engine.specs.declared.totals.Totals.{Totals}
use Rattle.row_model.specs.Change.{Elsewhere, rows_vector_bytes, rows_side_bytes}
use Rattle.vec_base.specs.declared.limits.TheConstants.{LAST_COUNT}

-- `LAST_COUNT` stands for every greater number too
abbrev pub capped : ℕ → ℕ
capped n = min n LAST_COUNT

-- the bytes of other tables and of these rows
abbrev pub total_beside : Elsewhere → List Row → Totals
total_beside other rows = record {
  vectors = capped (other.vectors + rows_vector_bytes rows);
  sides = capped (other.sides + rows_side_bytes rows);
}
