-- Where marks and cursors stand in a session.
use Rattle.std.specs.Prelude.{◌≡◌, ℕ, suc, ◌<◌, List, length, take, slice_index_or, slice_set, Some}
use Rattle.std.specs.List.{remove}
use Rattle.row_model.specs.declared.state.CursorRows.{CursorRows}
use Rattle.row_model.specs.declared.state.Mark.{Mark}
use Rattle.row_model.specs.Machine.{before_mark, cursor_of, newest_mark, upto_mark, with_cursor, without_cursor}

-- the newest mark of the name stands there
pub record IsMarkAt (name : List ℕ) (marks : List Mark) (at : ℕ) : Type 0 where
  pub within : at < length marks
  pub is : (d : Mark) → newest_mark name marks ≡ Some (slice_index_or marks at d)
  pub upto : upto_mark name marks ≡ take (suc at) marks
  pub before : before_mark name marks ≡ take at marks

-- the cursor of the number stands there
pub record IsCursorAt (number : ℕ) (cursors : List CursorRows) (at : ℕ) : Type 0 where
  pub within : at < length cursors
  pub is : (d : CursorRows) → cursor_of number cursors ≡ Some (slice_index_or cursors at d)
  pub same : (d : CursorRows) → (slice_index_or cursors at d).number ≡ number
  pub put : (new : CursorRows) → new.number ≡ number → with_cursor new cursors ≡ slice_set cursors at new
  pub gone : without_cursor number cursors ≡ remove cursors at
