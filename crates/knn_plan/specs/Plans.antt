-- What a plan shows, and what it says of the columns that it was made for.
use Rattle.std.specs.Prelude.{◌≡◌, ℕ, Bool, List, [], ◌∷◌, map, Option, None, Some, position}
use Rattle.std.specs.Option.{option_map}
use Rattle.vec_base.specs.declared.value.Value.{Value}
use Rattle.row_model.specs.Answer.{Target, count_wanted, is_point_term, shape_of, target_of}
use Rattle.row_model.specs.Check.{check_select, is_on_distance, some_term}
use Rattle.row_model.specs.ColumnNames.{item_places, place_of}
use Rattle.row_model.specs.declared.request.Shape.{Shape}
use Rattle.row_model.specs.declared.schema.Column.{Column}
use Rattle.row_model.specs.declared.statement.Constraint.{Constraint}
use Rattle.row_model.specs.declared.statement.Items.TheVariants.{All}
use Rattle.row_model.specs.declared.statement.Order.TheVariants.{Unsaid}
use Rattle.row_model.specs.declared.statement.Select.{Select}
use Rattle.row_model.specs.declared.statement.Test.{Test}
use Rattle.row_model.specs.declared.statement.Test.TheVariants.{Match}
use Rattle.knn_plan.specs.PlannedColumns.{planned_column, term_column}
use Rattle.knn_plan.specs.TermUses.{begins_rows, is_on_rows, lists_rows}
use Rattle.knn_plan.specs.declared.column.PlannedColumn.{PlannedColumn}

-- the vector of a MATCH, with its column
pub record PlannedTarget : Type 0 where
  pub column : PlannedColumn
  pub query : Value

pub record Planned : Type 0 where
  -- the statement, and what its names mean: of each term, and of each item
  pub select : Select
  pub terms : List PlannedColumn
  pub items : List PlannedColumn
  pub shape : Shape
  pub target : Option PlannedTarget
  -- how many of the nearest rows are wanted
  pub count : ℕ
  -- some term has to be tested row by row, and some term is on distance
  pub by_row : Bool
  pub by_distance : Bool
  -- the indices of the first terms that say which rowid or key is wanted, which ones are, and from which rowid on
  pub point : Option ℕ
  pub listed : Option ℕ
  pub start : Option ℕ

-- ---- the target

abbrev pub or_later : Option PlannedTarget → Option PlannedTarget → Option PlannedTarget
or_later None later = later
or_later (Some target) later = Some target

abbrev pub target_on : PlannedColumn → Test → Option PlannedTarget
target_on column (Match query) = Some record { column = column; query = query }
target_on column _ = None

-- the first MATCH, where these are the columns of the terms
abbrev pub target_among : List Constraint → List PlannedColumn → Option PlannedTarget
target_among (term ∷ terms) (column ∷ columns) = or_later (target_on column term.test) (target_among terms columns)
target_among [] columns = None
target_among (term ∷ terms) [] = None

abbrev pub planned_target : List Column → Target → PlannedTarget
planned_target columns target = record { column = planned_column columns target.place; query = target.query }

-- ---- a plan for columns

-- The SELECT is one that the checks take, and the rest is what the definitions say of it.
pub record IsPlanFor (columns : List Column) (plan : Planned) : Type 0 where
  pub checked : check_select columns plan.select ≡ None
  pub terms : plan.terms ≡ map (term_column columns) plan.select.where_terms
  pub items : plan.items ≡ map (planned_column columns) (item_places columns plan.select.items)
  pub shape : plan.shape ≡ shape_of columns plan.select
  pub target : plan.target ≡ option_map (planned_target columns) (target_of columns plan.select.where_terms)
  pub count : plan.count ≡ count_wanted columns plan.select.where_terms plan.select.limit
  pub by_row : plan.by_row ≡ some_term columns is_on_rows plan.select.where_terms
  pub by_distance : plan.by_distance ≡ some_term columns is_on_distance plan.select.where_terms
  pub point : plan.point ≡ position (is_point_term columns) plan.select.where_terms
  pub listed : plan.listed ≡ position (λ term. lists_rows (place_of columns term.column) term.test) plan.select.where_terms
  pub start : plan.start ≡ position (λ term. begins_rows (place_of columns term.column) term.test) plan.select.where_terms

-- ---- the rows of a change

-- The SELECT of all rows of the table that meet the terms.
abbrev pub rows_with : List ℕ → List Constraint → Select
rows_with table terms = record { table = table; items = All; where_terms = terms; order = Unsaid; limit = None }
