-- Slots with their cells by the slots without them: a change of one slot, and which are used.
use Rattle.std.proofs.Common.{◌≡◌, ◌≢◌, ◌<◌, ◌+◌, ℕ, suc, zero, List, [], ◌∷◌, map, length, get_or, set, replicate, Option, Some, None, refl, ap, ap₂, ◌∙◌, arith}
use Rattle.std.specs.Option.{is_some, option_map}
use Rattle.chunk_slots.specs.Slots.{UsedSlot}
use Rattle.row_chunks.specs.RowSlots.{used_by, vectors_alone}
use Rattle.row_chunks.specs.inner.CellColumns.{CellList, cells_at, row_in, rows_from}

pub length_rows : (columns : List CellList) (s : ℕ) (slots : List (Option UsedSlot)) → length (rows_from columns s slots) ≡ length slots
length_rows columns s [] = refl
length_rows columns s (x ∷ slots) = ap suc (length_rows columns (suc s) slots)

get_row_from : (columns : List CellList) (s : ℕ) (slots : List (Option UsedSlot)) (i : ℕ) → get_or (rows_from columns s slots) i None ≡ row_in columns (s + i) (get_or slots i None)
get_row_from columns s [] i = refl
get_row_from columns s (x ∷ slots) zero = let e : s ≡ s + zero = omega arith in ap (λ n. row_in columns n x) e
get_row_from columns s (x ∷ slots) (suc i) =
    let e : suc s + i ≡ s + suc i = omega arith in
    get_row_from columns (suc s) slots i ∙ ap (λ n. row_in columns n (get_or slots i None)) e

pub get_row : (columns : List CellList) (slots : List (Option UsedSlot)) (i : ℕ) → get_or (rows_from columns 0 slots) i None ≡ row_in columns i (get_or slots i None)
get_row columns slots i = let e : 0 + i ≡ i = omega arith in get_row_from columns 0 slots i ∙ ap (λ n. row_in columns n (get_or slots i None)) e

pub some_row : (columns : List CellList) (s : ℕ) (x : Option UsedSlot) → is_some (row_in columns s x) ≡ is_some x
some_row columns s None = refl
some_row columns s (Some used) = refl

-- without the cells it is the slot itself
pub alone : (columns : List CellList) (s : ℕ) (x : Option UsedSlot) → option_map vectors_alone (row_in columns s x) ≡ x
alone columns s None = refl
alone columns s (Some used) = refl

pub all_alone : (columns : List CellList) (s : ℕ) (slots : List (Option UsedSlot)) → map (λ slot. option_map vectors_alone slot) (rows_from columns s slots) ≡ slots
all_alone columns s [] = refl
all_alone columns s (x ∷ slots) = ap₂ (λ y ys. y ∷ ys) (alone columns s x) (all_alone columns (suc s) slots)

same_row : (before after : List CellList) (s : ℕ) (x : Option UsedSlot) → cells_at after s ≡ cells_at before s → row_in after s x ≡ row_in before s x
same_row before after s None same = refl
same_row before after s (Some used) same = ap (used_by used.rowid used.vectors) same

-- columns that differ at a slot before these
rows_behind : (before after : List CellList) (slot s : ℕ) (slots : List (Option UsedSlot)) → slot < s → ((other : ℕ) → other ≢ slot → cells_at after other ≡ cells_at before other) →
    rows_from after s slots ≡ rows_from before s slots
rows_behind before after slot s [] behind others = refl
rows_behind before after slot s (x ∷ slots) behind others =
    ap₂ (λ y ys. y ∷ ys) (same_row before after s x (others s (omega (arith, behind))))
    (rows_behind before after slot (suc s) slots (omega (arith, behind)) others)

rows_set_from : (before after : List CellList) (slot s i : ℕ) (slots : List (Option UsedSlot)) (new : Option UsedSlot) → s + i ≡ slot → ((other : ℕ) → other ≢ slot → cells_at after other ≡ cells_at before other) →
    rows_from after s (set slots i new) ≡ set (rows_from before s slots) i (row_in after slot new)
rows_set_from before after slot s i [] new at others = refl
rows_set_from before after slot s zero (x ∷ slots) new at others =
    let e : s ≡ slot = omega (arith, at) in
    ap₂ (λ y ys. y ∷ ys) (ap (λ n. row_in after n new) e) (rows_behind before after slot (suc s) slots (omega (arith, at)) others)
rows_set_from before after slot s (suc i) (x ∷ slots) new at others =
    ap₂ (λ y ys. y ∷ ys) (same_row before after s x (others s (omega (arith, at))))
    (rows_set_from before after slot (suc s) i slots new (omega (arith, at)) others)

-- another content of a slot, whose cells alone changed
pub rows_set : (before after : List CellList) (slot : ℕ) (slots : List (Option UsedSlot)) (new : Option UsedSlot) → ((other : ℕ) → other ≢ slot → cells_at after other ≡ cells_at before other) →
    rows_from after 0 (set slots slot new) ≡ set (rows_from before 0 slots) slot (row_in after slot new)
rows_set before after slot slots new others = rows_set_from before after slot 0 slot slots new (let e : 0 + slot ≡ slot = omega arith in e) others

pub all_free_rows : (columns : List CellList) (s count : ℕ) → rows_from columns s (replicate count None) ≡ replicate count None
all_free_rows columns s zero = refl
all_free_rows columns s (suc count) = ap (λ rows. None ∷ rows) (all_free_rows columns (suc s) count)

pub none_there : (columns : List CellList) (s : ℕ) (x : Option UsedSlot) → row_in columns s x ≡ None → x ≡ None
none_there columns s None free = refl
none_there columns s (Some used) free = absurd cc
