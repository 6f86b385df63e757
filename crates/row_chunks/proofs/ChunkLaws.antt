-- Chunks by their columns and slots: what is known of a slot, and what a change of the parts makes of the chunk.
use Rattle.std.proofs.Common.{◌≡◌, ◌<◌, ℕ, zero, suc, ℤ, true, List, [], ◌∷◌, length, get_or, set, Option, Some, None, Ok, Err, refl, sym, ap, ap₂, ◌∙◌, subst, arith, true≢false}
use Rattle.std.specs.List.{All}
use Rattle.std.specs.Option.{is_some}
use Rattle.std.specs.Bool.{if◌then◌else◌}
use Rattle.std.specs.Result.{is_ok, IsErr}
use Rattle.std.specs.declared.result.Result.{Result}
use Rattle.std.proofs.lemmas.List.{set-get_or, get_or-map, length-map}
use Rattle.vec_base.specs.declared.value.Value.{Value}
use Rattle.vec_base.specs.declared.value.Value.TheVariants.{Null}
use Rattle.row_model.specs.declared.schema.Kind.{Kind}
use Rattle.chunk_slots.specs.Slots.{Slots, UsedSlot, used_by as plain_used, slot_at as plain_at, all_free as plain_free, with_slot as with_plain, with_vector as with_plain_vector}
use Rattle.row_chunks.specs.RowSlots.{RowSlots, used_by, slot_at, cells_in, cell_at, all_free, with_slot, with_vector, with_cell, plain_slots}
use Rattle.row_chunks.specs.inner.CellColumns.{CellList, column_with, kinds_in, cells_at, HaveSlot, HaveSize, row_in, rows_from, rows_of, KeepsOthers}
use Rattle.row_chunks.proofs.ColumnLaws.{keeps-itself, keeps-set, cells_set, slot_there}
use Rattle.row_chunks.proofs.SlotLaws.{length_rows, get_row, some_row, all_alone, rows_set, all_free_rows, none_there}

-- ---- what is known of a slot

pub size_seen : (columns : List CellList) (slots : Slots) (chunk : RowSlots) → rows_of columns slots ≡ chunk → length chunk.slots ≡ length slots.slots
size_seen columns slots chunk seen = ap (λ c. length c.slots) (sym seen) ∙ length_rows columns 0 slots.slots

pub slot_within : (columns : List CellList) (slots : Slots) (chunk : RowSlots) (slot : ℕ) → rows_of columns slots ≡ chunk → slot < length chunk.slots → slot < length slots.slots
slot_within columns slots chunk slot seen lt = omega (arith, lt, size_seen columns slots chunk seen)

pub slot_seen : (columns : List CellList) (slots : Slots) (chunk : RowSlots) (slot : ℕ) → rows_of columns slots ≡ chunk → slot_at chunk slot ≡ row_in columns slot (plain_at slots slot)
slot_seen columns slots chunk slot seen = ap (λ c. slot_at c slot) (sym seen) ∙ get_row columns slots.slots slot

pub slot_free : (columns : List CellList) (slots : Slots) (chunk : RowSlots) (slot : ℕ) → rows_of columns slots ≡ chunk → slot_at chunk slot ≡ None → plain_at slots slot ≡ None
slot_free columns slots chunk slot seen free = none_there columns slot (plain_at slots slot) (sym (slot_seen columns slots chunk slot seen) ∙ free)

pub slot_used : (columns : List CellList) (slots : Slots) (chunk : RowSlots) (slot : ℕ) → rows_of columns slots ≡ chunk → is_some (slot_at chunk slot) ≡ true → is_some (plain_at slots slot) ≡ true
slot_used columns slots chunk slot seen used = sym (some_row columns slot (plain_at slots slot)) ∙ ap is_some (sym (slot_seen columns slots chunk slot seen)) ∙ used

used_within : {A : Type 0} (xs : List (Option A)) (i : ℕ) → is_some (get_or xs i None) ≡ true → i < length xs
used_within [] i used = absurd cc
used_within (x ∷ xs) zero used = omega arith
used_within (x ∷ xs) (suc i) used = omega (arith, used_within xs i used)

pub used_slot_within : (columns : List CellList) (slots : Slots) (chunk : RowSlots) (slot : ℕ) → rows_of columns slots ≡ chunk → is_some (slot_at chunk slot) ≡ true → slot < length slots.slots
used_slot_within columns slots chunk slot seen used = used_within slots.slots slot (slot_used columns slots chunk slot seen used)

pub plain_seen : (columns : List CellList) (slots : Slots) (chunk : RowSlots) → rows_of columns slots ≡ chunk → slots ≡ plain_slots chunk
plain_seen columns slots chunk seen =
    ap (λ ss. record { widths = slots.widths; slots = ss }) (sym (all_alone columns 0 slots.slots)) ∙ ap plain_slots seen

-- ---- columns of a chunk

pub have_slot : (count slot : ℕ) (columns : List CellList) → HaveSize count columns → slot < count → HaveSlot slot columns
have_slot count slot columns have lt = λ k d within. omega (arith, lt, have k d within)

pub size_kept : (slot count : ℕ) (before after : List CellList) → HaveSize count before → KeepsOthers slot before after → HaveSize count after
size_kept slot count before after have kept = subst (All (λ size. size ≡ count)) (sym kept.sizes) have

pub column_within : (columns : List CellList) (slots : Slots) (chunk : RowSlots) (i : ℕ) → rows_of columns slots ≡ chunk → i < length chunk.kinds → i < length columns
column_within columns slots chunk i seen lt = omega (arith, lt, ap (λ c. length c.kinds) seen, length-map columns (λ column. column.kind))

-- a column of a chunk has a value for each used slot
pub column_there : (slot i : ℕ) (columns : List CellList) (d : CellList) (slots : Slots) (chunk : RowSlots) → HaveSize (length slots.slots) columns → i < length chunk.kinds → rows_of columns slots ≡ chunk →
    is_some (slot_at chunk slot) ≡ true → slot < length (get_or columns i d).cells
column_there slot i columns d slots chunk have lt seen used =
    slot_there slot i columns d (have_slot (length slots.slots) slot columns have (used_slot_within columns slots chunk slot seen used)) (column_within columns slots chunk i seen lt)

-- ---- changes

pub chunk_free : (count : ℕ) (widths : List ℕ) (kinds : List Kind) (columns : List CellList) (slots : Slots) → kinds_in columns ≡ kinds → slots ≡ plain_free count widths → rows_of columns slots ≡ all_free count widths kinds
chunk_free count widths kinds columns slots are all =
    ap (rows_of columns) all ∙ ap₂ (λ ks rows. record { widths = widths; kinds = ks; slots = rows }) are (all_free_rows columns 0 count)

-- another content of a slot, whose cells alone changed
chunk_set : (slot : ℕ) (content : Option UsedSlot) (before after : List CellList) (slots : Slots) (chunk : RowSlots) → KeepsOthers slot before after → rows_of before slots ≡ chunk →
    rows_of after (with_plain slot content slots) ≡ with_slot slot (row_in after slot content) chunk
chunk_set slot content before after slots chunk kept seen =
    ap₂ (λ ks rows. record { widths = slots.widths; kinds = ks; slots = rows }) kept.kinds (rows_set before after slot slots.slots content kept.others)
    ∙ ap (with_slot slot (row_in after slot content)) seen

pub chunk_placed : (slot : ℕ) (rowid : ℤ) (vectors : List (List ℕ)) (cells : List Value) (before after : List CellList) (slots new : Slots) (chunk : RowSlots) → KeepsOthers slot before after → cells_at after slot ≡ cells →
    rows_of before slots ≡ chunk → new ≡ with_plain slot (plain_used rowid vectors) slots → rows_of after new ≡ with_slot slot (used_by rowid vectors cells) chunk
chunk_placed slot rowid vectors cells before after slots new chunk kept row seen made =
    ap (rows_of after) made ∙ chunk_set slot (plain_used rowid vectors) before after slots chunk kept seen
    ∙ ap (λ cs. with_slot slot (used_by rowid vectors cs) chunk) row

-- the cells of a free slot are not seen
pub chunk_kept : (slot : ℕ) (before after : List CellList) (slots new : Slots) (chunk : RowSlots) → KeepsOthers slot before after → rows_of before slots ≡ chunk → slot_at chunk slot ≡ None → new ≡ slots →
    rows_of after new ≡ chunk
chunk_kept slot before after slots new chunk kept seen free same =
    ap (rows_of after) (same ∙ ap (λ ss. record { widths = slots.widths; slots = ss }) (sym (set-get_or slots.slots slot None) ∙ ap (set slots.slots slot) (slot_free before slots chunk slot seen free)))
    ∙ chunk_set slot None before after slots chunk kept seen
    ∙ ap (λ rows. record { widths = chunk.widths; kinds = chunk.kinds; slots = rows }) (ap (set chunk.slots slot) (sym free) ∙ set-get_or chunk.slots slot None)

pub chunk_dropped : (slot : ℕ) (columns : List CellList) (slots new : Slots) (chunk : RowSlots) → rows_of columns slots ≡ chunk → new ≡ with_plain slot None slots → rows_of columns new ≡ with_slot slot None chunk
chunk_dropped slot columns slots new chunk seen made =
    ap (rows_of columns) made ∙ chunk_set slot None columns columns slots chunk (keeps-itself slot columns) seen

vector_changed : (slot i : ℕ) (v : List ℕ) (columns : List CellList) (x : Option UsedSlot) → row_in columns slot (with_plain_vector i v x) ≡ with_vector i v (row_in columns slot x)
vector_changed slot i v columns None = refl
vector_changed slot i v columns (Some used) = refl

pub chunk_vector_set : (slot i : ℕ) (v : List ℕ) (columns : List CellList) (slots new : Slots) (chunk : RowSlots) → rows_of columns slots ≡ chunk →
    new ≡ with_plain slot (with_plain_vector i v (plain_at slots slot)) slots → rows_of columns new ≡ with_slot slot (with_vector i v (slot_at chunk slot)) chunk
chunk_vector_set slot i v columns slots new chunk seen made =
    ap (rows_of columns) made
    ∙ chunk_set slot (with_plain_vector i v (plain_at slots slot)) columns columns slots chunk (keeps-itself slot columns) seen
    ∙ ap (λ content. with_slot slot content chunk) (vector_changed slot i v columns (plain_at slots slot) ∙ ap (with_vector i v) (sym (slot_seen columns slots chunk slot seen)))

cell_changed : (slot i : ℕ) (v : Value) (columns : List CellList) (d : CellList) (x : Option UsedSlot) → slot < length (get_or columns i d).cells →
    row_in (set columns i (column_with slot v (get_or columns i d))) slot x ≡ with_cell i v (row_in columns slot x)
cell_changed slot i v columns d None within = refl
cell_changed slot i v columns d (Some used) within = ap (used_by used.rowid used.vectors) (cells_set slot i v columns d within)

same_content : (slots : Slots) (slot : ℕ) → slots ≡ with_plain slot (plain_at slots slot) slots
same_content slots slot = ap (λ ss. record { widths = slots.widths; slots = ss }) (sym (set-get_or slots.slots slot None))

pub chunk_cell_set : (slot i : ℕ) (v : Value) (columns : List CellList) (d new : CellList) (slots : Slots) (chunk : RowSlots) → slot < length (get_or columns i d).cells → rows_of columns slots ≡ chunk →
    new ≡ column_with slot v (get_or columns i d) → rows_of (set columns i new) slots ≡ with_slot slot (with_cell i v (slot_at chunk slot)) chunk
chunk_cell_set slot i v columns d new slots chunk within seen made =
    ap₂ (λ c ss. rows_of (set columns i c) ss) made (same_content slots slot)
    ∙ chunk_set slot (plain_at slots slot) columns (set columns i (column_with slot v (get_or columns i d))) slots chunk (keeps-set slot i v columns d) seen
    ∙ ap (λ content. with_slot slot content chunk) (cell_changed slot i v columns d (plain_at slots slot) within ∙ ap (with_cell i v) (sym (slot_seen columns slots chunk slot seen)))

-- ---- cells

cells_of_used : (columns : List CellList) (slot : ℕ) (x : Option UsedSlot) → is_some x ≡ true → cells_in (row_in columns slot x) ≡ cells_at columns slot
cells_of_used columns slot None used = absurd cc
cells_of_used columns slot (Some used) there = refl

-- the cells of a used slot are those of the columns
pub cells_seen : (slot : ℕ) (columns : List CellList) (slots : Slots) (chunk : RowSlots) → rows_of columns slots ≡ chunk → is_some (slot_at chunk slot) ≡ true → cells_in (slot_at chunk slot) ≡ cells_at columns slot
cells_seen slot columns slots chunk seen used =
    ap cells_in (slot_seen columns slots chunk slot seen) ∙ cells_of_used columns slot (plain_at slots slot) (slot_used columns slots chunk slot seen used)

pub cell_seen : (slot i : ℕ) (columns : List CellList) (d : CellList) (slots : Slots) (chunk : RowSlots) → i < length chunk.kinds → rows_of columns slots ≡ chunk → is_some (slot_at chunk slot) ≡ true →
    get_or (get_or columns i d).cells slot Null ≡ cell_at chunk slot i
cell_seen slot i columns d slots chunk lt seen used = sym (
    ap (λ cells. get_or cells i Null) (cells_seen slot columns slots chunk seen used)
    ∙ get_or-map (λ column. get_or column.cells slot Null) columns i d Null (column_within columns slots chunk i seen lt))

-- a value that stayed is what an error leaves
pub left_by_error : {A T E : Type 0} (r : Result T E) (x y z : A) → IsErr r → x ≡ z → x ≡ (if is_ok r then y else z)
left_by_error (Ok t) x y z err same = absurd (true≢false (sym err))
left_by_error (Err e) x y z err same = same

-- a call that put a vector, or left all as before
pub chunk_vector_left : {T E : Type 0} (r : Result T E) (slot i : ℕ) (v : List ℕ) (columns : List CellList) (slots new : Slots) (chunk : RowSlots) → rows_of columns slots ≡ chunk →
    new ≡ (if is_ok r then with_plain slot (with_plain_vector i v (plain_at slots slot)) slots else slots) →
    rows_of columns new ≡ (if is_ok r then with_slot slot (with_vector i v (slot_at chunk slot)) chunk else chunk)
chunk_vector_left (Ok t) slot i v columns slots new chunk seen made = chunk_vector_set slot i v columns slots new chunk seen made
chunk_vector_left (Err e) slot i v columns slots new chunk seen made = ap (rows_of columns) made ∙ seen

pub size_there : (count i : ℕ) (columns : List CellList) (d : CellList) → HaveSize count columns → i < length columns → length (get_or columns i d).cells ≡ count
size_there count i columns d have lt =
    sym (get_or-map (λ column. length column.cells) columns i d 0 lt) ∙ have i 0 (subst (λ n. i < n) (sym (length-map columns (λ column. length column.cells))) lt)
