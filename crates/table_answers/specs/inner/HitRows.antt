-- The items of the row of a hit.
use Rattle.std.specs.Prelude.{Bool, List, [], is_some}
use Rattle.std.specs.Option.{option_map}
use Rattle.std.specs.declared.option.Option.{Option}
use Rattle.std.specs.declared.option.Option.TheVariants.{Some, None}
use Rattle.vec_base.specs.declared.value.Value.{Value}
use Rattle.row_model.specs.declared.statement.Items.{Items}
use Rattle.shadow_records.specs.PlacedTables.{PlacedTable, row_of}
use Rattle.table_query.specs.Items.{items_at}
use Rattle.topk_merge.specs.declared.hit.Hit.{Hit}

abbrev pub or_none : Option (List Value) → List Value
or_none None = []
or_none (Some values) = values

abbrev pub hit_items : PlacedTable → Items → Hit → List Value
hit_items table items hit = or_none (option_map (items_at table.schema.columns items hit.distance) (row_of table.rows hit.rowid))

-- the hit's row is there
abbrev pub is_there : PlacedTable → Hit → Bool
is_there table hit = is_some (row_of table.rows hit.rowid)
