-- Cells: the values of metadata and auxiliary columns, in the order of their columns.
use Rattle.std.specs.Prelude.{Bool, true, false, ◌&&◌, ◌||◌, cond, if◌then◌else◌, List, [], ◌∷◌, Some, None}
use Rattle.std.specs.declared.option.Option.{Option}
use Rattle.vec_base.specs.declared.value.Value.{Value}
use Rattle.row_model.specs.Schemas.{is_auxiliary, is_metadata}
use Rattle.row_model.specs.Valid.{is_fitting}
use Rattle.row_model.specs.Values.{is_null, is_of_kind}
use Rattle.row_model.specs.declared.schema.Column.{Column}
use Rattle.row_model.specs.declared.schema.Kind.{Kind}
use Rattle.row_model.specs.declared.schema.Kind.TheVariants.{IntMeta, TextMeta}
use Rattle.row_model.specs.declared.statement.Test.{Test}
use Rattle.row_model.specs.declared.statement.Test.TheVariants.{Compare, Member, Match}

abbrev pub is_cell : Kind → Bool
is_cell kind = is_metadata kind || is_auxiliary kind

-- the kinds of the columns that have cells
abbrev pub kinds_of : List Column → List Kind
kinds_of [] = []
kinds_of (column ∷ columns) = cond (is_cell column.kind) (column.kind ∷ kinds_of columns) (kinds_of columns)

-- the values that stand in these columns
abbrev pub cells_of : List Column → List Value → List Value
cells_of (column ∷ columns) (value ∷ values) = cond (is_cell column.kind) (value ∷ cells_of columns values) (cells_of columns values)
cells_of [] values = []
cells_of (column ∷ columns) [] = []

-- a cell of the kind can hold the value: NULL in auxiliary columns alone, and each other value where it is of the column's type and not too long
abbrev pub is_cell_value : Kind → Value → Bool
is_cell_value kind value = if is_null value then is_auxiliary kind else is_fitting kind value

-- one value for each kind
abbrev pub are_cell_values : List Kind → List Value → Bool
are_cell_values [] [] = true
are_cell_values (kind ∷ kinds) (value ∷ values) = is_cell_value kind value && are_cell_values kinds values
are_cell_values [] (value ∷ values) = false
are_cell_values (kind ∷ kinds) [] = false

-- a column of the kind, if there is one, can hold the value
abbrev pub takes_value : Option Kind → Value → Bool
takes_value None value = false
takes_value (Some kind) value = is_cell_value kind value

-- columns in which a value is searched among several
abbrev pub has_members : Kind → Bool
has_members IntMeta = true
has_members TextMeta = true
has_members _ = false

-- the values of the kind can be filtered by the test: by a comparison with a value of the kind's type, or by membership
abbrev pub can_filter : Kind → Test → Bool
can_filter kind (Compare op constant) = is_metadata kind && is_of_kind kind constant
can_filter kind (Member constants) = has_members kind
can_filter kind (Match query) = false

-- those of a column of the kind, if there is one, can be
abbrev pub takes_test : Option Kind → Test → Bool
takes_test None test = false
takes_test (Some kind) test = can_filter kind test
