-- Chunks by their columns and rows: what is known of a slot, and what a change of the parts makes of the chunk.
use Rattle.std.proofs.Common.{◌≡◌, ◌<◌, ℕ, zero, suc, ℤ, true, List, [], ◌∷◌, length, get_or, set, replicate, Option, Some, None, Ok, Err, refl, sym, ap, ap₂, ◌∙◌, subst, arith, true≢false}
use Rattle.std.specs.List.{All}
use Rattle.std.specs.Option.{is_some}
use Rattle.std.specs.Bool.{if◌then◌else◌}
use Rattle.std.specs.Result.{is_ok, IsErr}
use Rattle.std.specs.declared.result.Result.{Result}
use Rattle.std.proofs.lemmas.List.{set-get_or, get_or-map, length-map}
use Rattle.chunk_slots.specs.Slots.{Slots, used_by, slot_at, vectors_in, vector_at, all_free, with_slot, with_vector}
use Rattle.chunk_slots.specs.inner.Blocks.{VectorColumn, column_with}
use Rattle.chunk_slots.specs.inner.Columns.{widths_of, vectors_at, HaveSlot, HaveSize, slot_in, chunk_of, KeepsOthers}
use Rattle.chunk_slots.proofs.ColumnLaws.{keeps-set, row_set, slot_there}
use Rattle.chunk_slots.proofs.SlotLaws.{length_slots, get_slot, some_slot, slots_set, all_free_slots, none_there}

pub row_within : (columns : List VectorColumn) (rows : List (Option ℤ)) (chunk : Slots) (slot : ℕ) → chunk_of columns rows ≡ chunk → slot < length chunk.slots → slot < length rows
row_within columns rows chunk slot seen lt = omega (arith, lt, ap (λ c. length c.slots) seen, length_slots columns 0 rows)

pub slot_seen : (columns : List VectorColumn) (rows : List (Option ℤ)) (chunk : Slots) (slot : ℕ) → chunk_of columns rows ≡ chunk → slot_at chunk slot ≡ slot_in columns slot (get_or rows slot None)
slot_seen columns rows chunk slot seen = ap (λ c. slot_at c slot) (sym seen) ∙ get_slot columns rows slot

pub row_free : (columns : List VectorColumn) (rows : List (Option ℤ)) (chunk : Slots) (slot : ℕ) → chunk_of columns rows ≡ chunk → slot_at chunk slot ≡ None → get_or rows slot None ≡ None
row_free columns rows chunk slot seen free = none_there columns slot (get_or rows slot None) (sym (slot_seen columns rows chunk slot seen) ∙ free)

pub row_used : (columns : List VectorColumn) (rows : List (Option ℤ)) (chunk : Slots) (slot : ℕ) → chunk_of columns rows ≡ chunk → is_some (slot_at chunk slot) ≡ true → is_some (get_or rows slot None) ≡ true
row_used columns rows chunk slot seen used = sym (some_slot columns slot (get_or rows slot None)) ∙ ap is_some (sym (slot_seen columns rows chunk slot seen)) ∙ used

used_within : {A : Type 0} (rows : List (Option A)) (slot : ℕ) → is_some (get_or rows slot None) ≡ true → slot < length rows
used_within [] slot used = absurd cc
used_within (row ∷ rows) zero used = omega arith
used_within (row ∷ rows) (suc slot) used = omega (arith, used_within rows slot used)

pub used_row_within : (columns : List VectorColumn) (rows : List (Option ℤ)) (chunk : Slots) (slot : ℕ) → chunk_of columns rows ≡ chunk → is_some (slot_at chunk slot) ≡ true → slot < length rows
used_row_within columns rows chunk slot seen used = used_within rows slot (row_used columns rows chunk slot seen used)

pub have_slot : (count slot : ℕ) (columns : List VectorColumn) → HaveSize count columns → slot < count → HaveSlot slot columns
have_slot count slot columns have lt = λ k d within. omega (arith, lt, have k d within)

pub size_kept : (slot count : ℕ) (before after : List VectorColumn) → HaveSize count before → KeepsOthers slot before after → HaveSize count after
size_kept slot count before after have kept = subst (All (λ size. size ≡ count)) (sym kept.sizes) have

pub chunk_free : (count : ℕ) (widths : List ℕ) (columns : List VectorColumn) (rows : List (Option ℤ)) → widths_of columns ≡ widths → rows ≡ replicate count None → chunk_of columns rows ≡ all_free count widths
chunk_free count widths columns rows are all =
    ap (chunk_of columns) all ∙ ap₂ (λ ws slots. record { widths = ws; slots = slots }) are (all_free_slots columns 0 count)

-- a row in a slot, whose vectors alone changed
chunk_set : (slot : ℕ) (row : Option ℤ) (before after : List VectorColumn) (rows : List (Option ℤ)) (chunk : Slots) → KeepsOthers slot before after → chunk_of before rows ≡ chunk →
    chunk_of after (set rows slot row) ≡ with_slot slot (slot_in after slot row) chunk
chunk_set slot row before after rows chunk kept seen =
    ap₂ (λ ws slots. record { widths = ws; slots = slots }) kept.widths (slots_set before after slot rows row kept.others)
    ∙ ap (with_slot slot (slot_in after slot row)) seen

pub chunk_placed : (slot : ℕ) (rowid : ℤ) (vectors : List (List ℕ)) (before after : List VectorColumn) (rows new : List (Option ℤ)) (chunk : Slots) → KeepsOthers slot before after → vectors_at after slot ≡ vectors →
    chunk_of before rows ≡ chunk → new ≡ set rows slot (Some rowid) → chunk_of after new ≡ with_slot slot (used_by rowid vectors) chunk
chunk_placed slot rowid vectors before after rows new chunk kept row seen made =
    ap (chunk_of after) made ∙ chunk_set slot (Some rowid) before after rows chunk kept seen
    ∙ ap (λ vs. with_slot slot (used_by rowid vs) chunk) row

pub chunk_dropped : (slot : ℕ) (columns : List VectorColumn) (rows new : List (Option ℤ)) (chunk : Slots) → chunk_of columns rows ≡ chunk → new ≡ set rows slot None → chunk_of columns new ≡ with_slot slot None chunk
chunk_dropped slot columns rows new chunk seen made =
    ap (chunk_of columns) made
    ∙ chunk_set slot None columns columns rows chunk (record { widths = refl; sizes = refl; others = λ other apart. refl }) seen

-- the vectors of a free slot are not seen
pub chunk_kept : (slot : ℕ) (before after : List VectorColumn) (rows new : List (Option ℤ)) (chunk : Slots) → KeepsOthers slot before after → chunk_of before rows ≡ chunk → slot_at chunk slot ≡ None → new ≡ rows →
    chunk_of after new ≡ chunk
chunk_kept slot before after rows new chunk kept seen free same =
    ap (chunk_of after) (same ∙ sym (set-get_or rows slot None) ∙ ap (set rows slot) (row_free before rows chunk slot seen free))
    ∙ chunk_set slot None before after rows chunk kept seen
    ∙ ap (λ slots. record { widths = chunk.widths; slots = slots }) (ap (set chunk.slots slot) (sym free) ∙ set-get_or chunk.slots slot None)

slot_changed : (slot i : ℕ) (v : List ℕ) (columns : List VectorColumn) (d : VectorColumn) (row : Option ℤ) → slot < length (get_or columns i d).vectors →
    slot_in (set columns i (column_with slot v (get_or columns i d))) slot row ≡ with_vector i v (slot_in columns slot row)
slot_changed slot i v columns d None within = refl
slot_changed slot i v columns d (Some rowid) within = ap (used_by rowid) (row_set slot i v columns d within)

pub chunk_vector_set : (slot i : ℕ) (v : List ℕ) (columns : List VectorColumn) (d new : VectorColumn) (rows : List (Option ℤ)) (chunk : Slots) → slot < length (get_or columns i d).vectors → chunk_of columns rows ≡ chunk →
    new ≡ column_with slot v (get_or columns i d) → chunk_of (set columns i new) rows ≡ with_slot slot (with_vector i v (slot_at chunk slot)) chunk
chunk_vector_set slot i v columns d new rows chunk within seen made =
    let after = set columns i (column_with slot v (get_or columns i d)) in
    ap₂ (λ c rs. chunk_of (set columns i c) rs) made (sym (set-get_or rows slot None))
    ∙ chunk_set slot (get_or rows slot None) columns after rows chunk (keeps-set slot i v columns d) seen
    ∙ ap (λ content. with_slot slot content chunk) (slot_changed slot i v columns d (get_or rows slot None) within ∙ ap (with_vector i v) (sym (slot_seen columns rows chunk slot seen)))

vectors_of_used : (columns : List VectorColumn) (slot : ℕ) (row : Option ℤ) → is_some row ≡ true → vectors_in (slot_in columns slot row) ≡ vectors_at columns slot
vectors_of_used columns slot None used = absurd cc
vectors_of_used columns slot (Some rowid) used = refl

pub vector_seen : (slot i : ℕ) (columns : List VectorColumn) (d : VectorColumn) (rows : List (Option ℤ)) (chunk : Slots) → i < length columns → chunk_of columns rows ≡ chunk → is_some (slot_at chunk slot) ≡ true →
    get_or (get_or columns i d).vectors slot [] ≡ vector_at chunk slot i
vector_seen slot i columns d rows chunk lt seen used =
    sym (ap (λ content. get_or (vectors_in content) i []) (slot_seen columns rows chunk slot seen)
    ∙ ap (λ vs. get_or vs i []) (vectors_of_used columns slot (get_or rows slot None) (row_used columns rows chunk slot seen used))
    ∙ get_or-map (λ column. get_or column.vectors slot []) columns i d [] lt)

pub column_within : (columns : List VectorColumn) (rows : List (Option ℤ)) (chunk : Slots) (i : ℕ) → chunk_of columns rows ≡ chunk → i < length chunk.widths → i < length columns
column_within columns rows chunk i seen lt = omega (arith, lt, ap (λ c. length c.widths) seen, length-map columns (λ column. column.width))

-- a column of a chunk has a vector for each used slot
pub column_there : (slot n i : ℕ) (columns : List VectorColumn) (c : VectorColumn) (rows : List (Option ℤ)) (chunk : Slots) → HaveSize (length rows) columns → n ≡ i → i < length chunk.widths → chunk_of columns rows ≡ chunk →
    is_some (slot_at chunk slot) ≡ true → c ≡ get_or columns n c → slot < length c.vectors
column_there slot n i columns c rows chunk have same lt seen used there =
    let within : n < length columns = omega (arith, same, column_within columns rows chunk i seen lt) in
    subst (λ column. slot < length column.vectors) (sym there)
    (slot_there slot n columns c (have_slot (length rows) slot columns have (used_row_within columns rows chunk slot seen used)) within)

-- a value that stayed is what an error leaves
pub left_by_error : {A T E : Type 0} (r : Result T E) (x y z : A) → IsErr r → x ≡ z → x ≡ (if is_ok r then y else z)
left_by_error (Ok t) x y z err same = absurd (true≢false (sym err))
left_by_error (Err e) x y z err same = same
