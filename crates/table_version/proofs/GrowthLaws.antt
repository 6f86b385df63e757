-- A row that nothing refuses: what that says of it, and that the table stays valid with it.
use Rattle.std.proofs.Common.{◌≡◌, ℤ, ◌+◌, ◌≤◌, Bool, true, false, List, [], ◌∷◌, ◌++◌, ◌∙◌, refl, ap, arith, length, Option, Some, None, Ok}
use Rattle.std.specs.Prelude.{find, int_lt, if◌then◌else◌}
use Rattle.std.specs.List.{list_all, AllByRecursion}
use Rattle.std.proofs.lemmas.Bool.{and_parts}
use Rattle.vec_base.specs.declared.limits.TheConstants.{MOST_ROWS, MOST_SIDE_BYTES, MOST_VECTOR_BYTES}
use Rattle.vec_base.specs.declared.refusal.Refusal.{Refusal}
use Rattle.vec_base.specs.declared.value.Value.{Value}
use Rattle.row_model.specs.Change.{Elsewhere, assigned, duplicate, group_refusals, grown, long_values, new_row, or_grown, room_refusals, row_refusals, rows_side_bytes, rows_vector_bytes, same_id, spent, taken_id, taken_rowid, with_new_row}
use Rattle.row_model.specs.Limits.{over_rows, over_sides, over_vectors}
use Rattle.row_model.specs.RefusalOrder.{first}
use Rattle.row_model.specs.Rows.{has_rowid, with_row}
use Rattle.row_model.specs.Valid.{is_valid_row, IsRepresentableRow, IsValidTable}
use Rattle.row_model.specs.Values.{row_side_bytes, row_vector_bytes}
use Rattle.row_model.specs.declared.limits.TheConstants.{ROWS_LIMIT, SIDE_BYTES_LIMIT, VECTOR_BYTES_LIMIT}
use Rattle.row_model.specs.declared.row.Row.{Row}
use Rattle.row_model.specs.declared.row.Table.{Table}
use Rattle.row_model.specs.declared.schema.Place.{Place}
use Rattle.row_model.proofs.SelectLaws.{both_empty}
use Rattle.row_model.proofs.ValidityInserts.{HasRoom, IsGroup, IsListed, grown_valid}
use Rattle.row_model.proofs.ValidityRows.{over_none}
use Rattle.row_model.proofs.ValidityValues.{new_row_representable}
use Rattle.table_version.proofs.ValidityLaws.{assigned-fresh, valid-with_row}

-- ---- what no refusal says

-- its rowid and text id are those of no row, a rowid is left, its texts and blobs are short, and there is room for it
pub record IsWelcome (other : Elsewhere) (table : Table) (rowid : Option ℤ) (row : Row) (given : List Value) : Type 0 where
  pub free : taken_rowid table.rows rowid ≡ []
  pub alone : find (λ r. same_id table.schema.columns row.values r.values) table.rows ≡ None
  pub left : spent table.top rowid ≡ []
  pub short : long_values given ≡ []
  pub few : length table.rows + 1 ≤ MOST_ROWS
  pub vectors : other.vectors + rows_vector_bytes table.rows + row_vector_bytes row ≤ MOST_VECTOR_BYTES
  pub sides : other.sides + rows_side_bytes table.rows + row_side_bytes row ≤ MOST_SIDE_BYTES

none_there : (found : Option Row) → duplicate found ≡ [] → found ≡ None
none_there None h = refl
none_there (Some row) h = absurd cc

pub not-refused : (other : Elsewhere) (table : Table) (rowid : Option ℤ) (row : Row) (given : List Value) → row_refusals other table rowid row given ≡ [] → IsWelcome other table rowid row given
not-refused other table rowid row given none =
    let columns = table.schema.columns in
    let a = taken_rowid table.rows rowid in
    let b = taken_id columns table.rows row.values in
    let s = spent table.top rowid in
    let v = long_values given in
    let rows = over_rows (length table.rows + 1) in
    let vectors = over_vectors (other.vectors + rows_vector_bytes table.rows + row_vector_bytes row) in
    let sides = over_sides (other.sides + rows_side_bytes table.rows + row_side_bytes row) in
    let one = both_empty (a ++ b ++ s ++ v) (room_refusals other table.rows row) none in
    let two = both_empty (a ++ b ++ s) v one.0 in
    let three = both_empty (a ++ b) s two.0 in
    let four = both_empty a b three.0 in
    let room = both_empty (rows ++ vectors) sides one.1 in
    let firsts = both_empty rows vectors room.0 in
    record {
      free = four.0;
      alone = none_there (find (λ r. same_id columns row.values r.values) table.rows) four.1;
      left = three.1;
      short = two.1;
      few = over_none ROWS_LIMIT MOST_ROWS (length table.rows + 1) (omega arith) firsts.0;
      vectors = over_none VECTOR_BYTES_LIMIT MOST_VECTOR_BYTES (other.vectors + rows_vector_bytes table.rows + row_vector_bytes row) (omega arith) firsts.1;
      sides = over_none SIDE_BYTES_LIMIT MOST_SIDE_BYTES (other.sides + rows_side_bytes table.rows + row_side_bytes row) (omega arith) room.1;
    }

-- A valid table takes a valid row of the assigned rowid, where nothing refuses it.
pub valid-welcome : (other : Elsewhere) (table : Table) (rowid : Option ℤ) (row : Row) (given : List Value) → IsValidTable table → is_valid_row table.schema.columns row ≡ true →
    IsRepresentableRow row → row.rowid ≡ assigned table.top rowid → row_refusals other table rowid row given ≡ [] → IsValidTable (with_new_row table row)
valid-welcome other table rowid row given valid fits held same none =
    let welcome = not-refused other table rowid row given none in
    let new = ap (λ (n : ℤ). has_rowid n table.rows) same ∙ assigned-fresh table.top table.rows rowid valid.topped welcome.free welcome.left in
    valid-with_row table row valid fits held new welcome.alone welcome.few

-- ---- the row of a group of values

from_with_row : (such : Row → Bool) (row : Row) (rows : List Row) → list_all such (with_row row rows) ≡ true → such row ≡ true
from_with_row such row [] all = (and_parts (such row) true all).0
from_with_row such row (r ∷ rs) all =
    elim (int_lt row.rowid r.rowid) as (λ b. list_all such (if b then row ∷ r ∷ rs else r ∷ with_row row rs) ≡ true → such row ≡ true) [
      | true ↦ λ e. (and_parts (such row) (list_all such (r ∷ rs)) e).0
      | false ↦ λ e. from_with_row such row rs (and_parts (such r) (list_all such (with_row row rs)) e).1
    ] all

-- the row is valid, and so is the table with it, whose bytes are within the limits
pub record IsNewRow (other : Elsewhere) (table : Table) (row : Row) : Type 0 where
  pub fits : is_valid_row table.schema.columns row ≡ true
  pub representable : IsRepresentableRow row
  pub room : HasRoom other (with_new_row table row)

-- A group of values that the checks take and nothing refuses makes a valid row.
pub new_row-welcome : (other : Elsewhere) (table : Table) (places : List Place) (given : List Value) → HasRoom other table → AllByRecursion (IsListed table.schema.columns) places →
    IsGroup table.schema.columns places given → group_refusals other table places given ≡ [] → IsNewRow other table (new_row table places given)
new_row-welcome other table places given room listed group none =
    let row = new_row table places given in
    let larger_table = with_new_row table row in
    let grows : grown other places table (given ∷ []) ≡ Ok larger_table = ap (λ (refusals : List Refusal). or_grown (first refusals) (Ok larger_table)) none in
    let more = grown_valid other places table larger_table (given ∷ []) room listed (group, tt) grows in
    record {
      fits = from_with_row (is_valid_row table.schema.columns) row table.rows more.valid.values;
      representable = new_row_representable table places given room.valid.from_zero room.valid.last group.representable;
      room = more;
    }
