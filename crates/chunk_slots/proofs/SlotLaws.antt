-- Slots by their rowids and columns: a change of one slot, and which are used.
use Rattle.std.proofs.Common.{◌≡◌, ◌≢◌, ◌<◌, ◌+◌, ℕ, ℤ, suc, zero, not, cond, List, [], ◌∷◌, map, length, get_or, set, replicate, Option, Some, None, refl, sym, ap, ap₂, ◌∙◌, arith}
use Rattle.std.specs.List.{count_by, position_from}
use Rattle.std.specs.Option.{is_some, is_none}
use Rattle.std.proofs.lemmas.List.Sums.{sum_by-cons}
use Rattle.chunk_slots.specs.inner.Blocks.{VectorColumn}
use Rattle.chunk_slots.specs.inner.Columns.{vectors_at, slot_in, slots_from}

pub length_slots : (columns : List VectorColumn) (s : ℕ) (rows : List (Option ℤ)) → length (slots_from columns s rows) ≡ length rows
length_slots columns s [] = refl
length_slots columns s (row ∷ rows) = ap suc (length_slots columns (suc s) rows)

pub get_slot_from : (columns : List VectorColumn) (s : ℕ) (rows : List (Option ℤ)) (i : ℕ) → get_or (slots_from columns s rows) i None ≡ slot_in columns (s + i) (get_or rows i None)
get_slot_from columns s [] i = refl
get_slot_from columns s (row ∷ rows) zero = let e : s ≡ s + zero = omega arith in ap (λ n. slot_in columns n row) e
get_slot_from columns s (row ∷ rows) (suc i) =
    let e : suc s + i ≡ s + suc i = omega arith in
    get_slot_from columns (suc s) rows i ∙ ap (λ n. slot_in columns n (get_or rows i None)) e

pub get_slot : (columns : List VectorColumn) (rows : List (Option ℤ)) (i : ℕ) → get_or (slots_from columns 0 rows) i None ≡ slot_in columns i (get_or rows i None)
get_slot columns rows i = let e : 0 + i ≡ i = omega arith in get_slot_from columns 0 rows i ∙ ap (λ n. slot_in columns n (get_or rows i None)) e

pub some_slot : (columns : List VectorColumn) (s : ℕ) (row : Option ℤ) → is_some (slot_in columns s row) ≡ is_some row
some_slot columns s None = refl
some_slot columns s (Some rowid) = refl

pub which_used : (columns : List VectorColumn) (s : ℕ) (rows : List (Option ℤ)) → map is_some (slots_from columns s rows) ≡ map is_some rows
which_used columns s [] = refl
which_used columns s (row ∷ rows) = ap₂ (λ b bs. b ∷ bs) (some_slot columns s row) (which_used columns (suc s) rows)

pub count_used : {A : Type 0} (xs : List (Option A)) → count_by (λ bit. bit) (map is_some xs) ≡ count_by is_some xs
count_used [] = refl
count_used (x ∷ xs) =
    sum_by-cons (λ bit. cond bit 1 0) (is_some x) (map is_some xs)
    ∙ ap (λ n. cond (is_some x) 1 0 + n) (count_used xs)
    ∙ sym (sum_by-cons (λ y. cond (is_some y) 1 0) x xs)

not_some : {A : Type 0} (x : Option A) → not (is_some x) ≡ is_none x
not_some None = refl
not_some (Some x) = refl

pub first_unused : {A : Type 0} (s : ℕ) (xs : List (Option A)) → position_from (λ bit. not bit) s (map is_some xs) ≡ position_from is_none s xs
first_unused s [] = refl
first_unused s (x ∷ xs) = ap₂ (λ b rest. cond b (Some s) rest) (not_some x) (first_unused (s + 1) xs)

same_slot : (before after : List VectorColumn) (s : ℕ) (row : Option ℤ) → vectors_at after s ≡ vectors_at before s → slot_in after s row ≡ slot_in before s row
same_slot before after s None same = refl
same_slot before after s (Some rowid) same = ap (λ vectors. Some (record { rowid = rowid; vectors = vectors })) same

-- columns that differ at a slot before these
slots_behind : (before after : List VectorColumn) (slot s : ℕ) (rows : List (Option ℤ)) → slot < s → ((other : ℕ) → other ≢ slot → vectors_at after other ≡ vectors_at before other) →
    slots_from after s rows ≡ slots_from before s rows
slots_behind before after slot s [] behind others = refl
slots_behind before after slot s (row ∷ rows) behind others =
    ap₂ (λ x xs. x ∷ xs) (same_slot before after s row (others s (omega (arith, behind))))
    (slots_behind before after slot (suc s) rows (omega (arith, behind)) others)

slots_set_from : (before after : List VectorColumn) (slot s i : ℕ) (rows : List (Option ℤ)) (row : Option ℤ) → s + i ≡ slot → ((other : ℕ) → other ≢ slot → vectors_at after other ≡ vectors_at before other) →
    slots_from after s (set rows i row) ≡ set (slots_from before s rows) i (slot_in after slot row)
slots_set_from before after slot s i [] new at others = refl
slots_set_from before after slot s zero (row ∷ rows) new at others =
    let e : s ≡ slot = omega (arith, at) in
    ap₂ (λ x xs. x ∷ xs) (ap (λ n. slot_in after n new) e) (slots_behind before after slot (suc s) rows (omega (arith, at)) others)
slots_set_from before after slot s (suc i) (row ∷ rows) new at others =
    ap₂ (λ x xs. x ∷ xs) (same_slot before after s row (others s (omega (arith, at))))
    (slots_set_from before after slot (suc s) i rows new (omega (arith, at)) others)

-- another row in a slot, whose vectors alone changed
pub slots_set : (before after : List VectorColumn) (slot : ℕ) (rows : List (Option ℤ)) (row : Option ℤ) → ((other : ℕ) → other ≢ slot → vectors_at after other ≡ vectors_at before other) →
    slots_from after 0 (set rows slot row) ≡ set (slots_from before 0 rows) slot (slot_in after slot row)
slots_set before after slot rows row others = slots_set_from before after slot 0 slot rows row (let e : 0 + slot ≡ slot = omega arith in e) others

pub all_free_slots : (columns : List VectorColumn) (s count : ℕ) → slots_from columns s (replicate count None) ≡ replicate count None
all_free_slots columns s zero = refl
all_free_slots columns s (suc count) = ap (λ slots. None ∷ slots) (all_free_slots columns (suc s) count)

pub none_there : (columns : List VectorColumn) (s : ℕ) (row : Option ℤ) → slot_in columns s row ≡ None → row ≡ None
none_there columns s None free = refl
none_there columns s (Some rowid) free = absurd cc
