-- Chunks by their numbers, and what their slots hold.
use Rattle.std.specs.Prelude.{◌≡◌, ℕ, ℤ, zero, suc, Bool, true, ◌&&◌, ◌==◌, cond, if◌then◌else◌, nat_lt, ◌<◌, ◌^◌, List, [], ◌∷◌, map, length, Option, Some, None, is_some}
use Rattle.std.specs.List.{list_all, list_any, AllByRecursion}
use Rattle.std.specs.Option.{option_map}
use Rattle.vec_base.specs.declared.value.Value.{Value}
use Rattle.row_model.specs.declared.schema.Kind.{Kind}
use Rattle.row_model.specs.declared.schema.Column.{Column}
use Rattle.chunk_slots.specs.Slots.{vectors_of}
use Rattle.row_chunks.specs.Cells.{are_cell_values, cells_of, kinds_of}
use Rattle.row_chunks.specs.RowSlots.{RowSlots, UsedRow, slot_at, used_by, with_slot}
use Rattle.row_store.specs.declared.part.Part.{Part}
use Rattle.row_store.specs.declared.shape.Shape.{Shape}

abbrev pub part_of : List Part → ℕ → Option Part
part_of [] c = None
part_of (p ∷ ps) c = cond (p.number == c) (Some p) (part_of ps c)

abbrev pub slots_of : List Part → ℕ → Option RowSlots
slots_of parts c = option_map (λ p. p.slots) (part_of parts c)

abbrev pub seen_in : Option Part → ℕ → Option UsedRow
seen_in None s = None
seen_in (Some p) s = slot_at p.slots s

-- what a slot holds
abbrev pub seen_at : List Part → ℕ → ℕ → Option UsedRow
seen_at parts c s = seen_in (part_of parts c) s

-- each number is below those of all parts behind it
abbrev pub numbers_rise : List Part → Bool
numbers_rise [] = true
numbers_rise (p ∷ ps) = list_all (λ q. nat_lt p.number q.number) ps && numbers_rise ps

-- the number of the part at a place
abbrev pub number_at : List Part → ℕ → ℕ
number_at [] k = 0
number_at (p ∷ ps) zero = p.number
number_at (p ∷ ps) (suc k) = number_at ps k

-- the slots of the shape, some of them used, vectors of its widths, and a number of 32 bits
pub record HasShape (shape : Shape) (p : Part) : Type 0 where
  pub long : length p.slots.slots ≡ shape.size
  pub wide : p.slots.widths ≡ shape.widths
  pub celled : p.slots.kinds ≡ shape.kinds
  pub filled : list_any is_some p.slots.slots ≡ true
  pub vectors : (s : ℕ) (used : UsedRow) → slot_at p.slots s ≡ Some used → map length used.vectors ≡ shape.widths
  pub narrow : p.number < 2 ^ 32

pub record ArePartsOf (shape : Shape) (parts : List Part) : Type 0 where
  pub rise : numbers_rise parts ≡ true
  pub shaped : AllByRecursion (HasShape shape) parts

-- ---- changes of one slot

-- a row with these values in these columns fits widths and kinds
pub record RowFits (widths : List ℕ) (kinds : List Kind) (columns : List Column) (values : List Value) : Type 0 where
  pub vectors : map length (vectors_of values) ≡ widths
  pub columns_kinds : kinds_of columns ≡ kinds
  pub cells : are_cell_values kinds (cells_of columns values) ≡ true

-- what a slot holds of a row with these values in these columns
abbrev pub taken_by : ℤ → List Column → List Value → Option UsedRow
taken_by rowid columns values = used_by rowid (vectors_of values) (cells_of columns values)

-- the slot is free, and the row fits
pub record CanTake (slot : ℕ) (columns : List Column) (values : List Value) (p : Part) : Type 0 where
  pub within : slot < length p.slots.slots
  pub free : slot_at p.slots slot ≡ None
  pub fits : RowFits p.slots.widths p.slots.kinds columns values

-- the part with something else in a slot
abbrev pub with_content : ℕ → Option UsedRow → Part → Part
with_content slot content p = record p { slots = with_slot slot content p.slots }

-- one slot holds something else, or nothing more
pub record IsChangedAt (c s : ℕ) (content : Option UsedRow) (old new : List Part) : Type 0 where
  pub seen : (d t : ℕ) → seen_at new d t ≡ (if d == c && t == s then content else seen_at old d t)

-- the parts have the shapes that they had
abbrev pub KeepShapes : List Part → List Part → Type 0
KeepShapes old new = (shape : Shape) → ArePartsOf shape old → ArePartsOf shape new
