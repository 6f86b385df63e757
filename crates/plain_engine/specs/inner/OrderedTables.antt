-- Tables whose rows stand in order.
use Rattle.std.specs.Prelude.{◌≡◌, true}
use Rattle.row_model.specs.declared.row.Table.{Table}
use Rattle.row_model.specs.Rows.{is_rising}
use Rattle.row_model.specs.Valid.{is_top}

-- rowids rise, and none is above the top
pub record IsOrdered (table : Table) : Type 0 where
  pub rising : is_rising table.rows ≡ true
  pub topped : is_top table.top table.rows ≡ true
