-- Rowids beside the truth values of their slots: a change of one slot, and how many are used.
use Rattle.std.proofs.Common.{◌≡◌, ◌<◌, ◌+◌, ℕ, ℤ, suc, zero, Bool, true, false, cond, List, [], ◌∷◌, map, length, get_or, set, replicate, Some, None, refl, sym, ap, ap₂, ◌∙◌, arith}
use Rattle.std.specs.List.{count_by}
use Rattle.std.specs.Option.{is_some}
use Rattle.std.proofs.lemmas.List.Sums.{sum_by-set}
use Rattle.chunk_slots.specs.inner.Rows.{row_of, rows_of}

some_row : (bit : Bool) (rowid : ℤ) → is_some (row_of bit rowid) ≡ bit
some_row true rowid = refl
some_row false rowid = refl

-- a slot is used where its truth value is true
pub which_used : (bits : List Bool) (rowids : List ℤ) → length rowids ≡ length bits → map is_some (rows_of bits rowids) ≡ bits
which_used [] rowids same = refl
which_used (bit ∷ bits) [] same = absurd (omega (arith, same))
which_used (bit ∷ bits) (rowid ∷ rowids) same = ap₂ (λ b bs. b ∷ bs) (some_row bit rowid) (which_used bits rowids (omega (arith, same)))

pub length_rows : (bits : List Bool) (rowids : List ℤ) → length rowids ≡ length bits → length (rows_of bits rowids) ≡ length bits
length_rows [] rowids same = refl
length_rows (bit ∷ bits) [] same = absurd (omega (arith, same))
length_rows (bit ∷ bits) (rowid ∷ rowids) same = ap suc (length_rows bits rowids (omega (arith, same)))

pub get_row : (bits : List Bool) (rowids : List ℤ) (i : ℕ) (d : ℤ) → length rowids ≡ length bits → get_or (rows_of bits rowids) i None ≡ row_of (get_or bits i false) (get_or rowids i d)
get_row [] rowids i d same = refl
get_row (bit ∷ bits) [] i d same = absurd (omega (arith, same))
get_row (bit ∷ bits) (rowid ∷ rowids) zero d same = refl
get_row (bit ∷ bits) (rowid ∷ rowids) (suc i) d same = get_row bits rowids i d (omega (arith, same))

pub row_placed : (bits : List Bool) (rowids : List ℤ) (i : ℕ) (rowid : ℤ) → length rowids ≡ length bits → rows_of (set bits i true) (set rowids i rowid) ≡ set (rows_of bits rowids) i (Some rowid)
row_placed [] rowids i new same = refl
row_placed (bit ∷ bits) [] i new same = absurd (omega (arith, same))
row_placed (bit ∷ bits) (rowid ∷ rowids) zero new same = refl
row_placed (bit ∷ bits) (rowid ∷ rowids) (suc i) new same = ap (λ rows. row_of bit rowid ∷ rows) (row_placed bits rowids i new (omega (arith, same)))

pub row_dropped : (bits : List Bool) (rowids : List ℤ) (i : ℕ) → length rowids ≡ length bits → rows_of (set bits i false) rowids ≡ set (rows_of bits rowids) i None
row_dropped [] rowids i same = refl
row_dropped (bit ∷ bits) [] i same = absurd (omega (arith, same))
row_dropped (bit ∷ bits) (rowid ∷ rowids) zero same = refl
row_dropped (bit ∷ bits) (rowid ∷ rowids) (suc i) same = ap (λ rows. row_of bit rowid ∷ rows) (row_dropped bits rowids i (omega (arith, same)))

pub all_free_rows : (count : ℕ) (rowids : List ℤ) → length rowids ≡ count → rows_of (replicate count false) rowids ≡ replicate count None
all_free_rows zero rowids same = refl
all_free_rows (suc count) [] same = absurd (omega (arith, same))
all_free_rows (suc count) (rowid ∷ rowids) same = ap (λ rows. None ∷ rows) (all_free_rows count rowids (omega (arith, same)))

-- the truth value of a slot, by whether its row is there
pub is_clear : (bits : List Bool) (rowids : List ℤ) (i : ℕ) → length rowids ≡ length bits → get_or (rows_of bits rowids) i None ≡ None → get_or bits i false ≡ false
is_clear [] rowids i same free = refl
is_clear (bit ∷ bits) [] i same free = absurd (omega (arith, same))
is_clear (true ∷ bits) (rowid ∷ rowids) zero same free = absurd cc
is_clear (false ∷ bits) (rowid ∷ rowids) zero same free = refl
is_clear (bit ∷ bits) (rowid ∷ rowids) (suc i) same free = is_clear bits rowids i (omega (arith, same)) free

pub is_set : (bits : List Bool) (rowids : List ℤ) (i : ℕ) → length rowids ≡ length bits → is_some (get_or (rows_of bits rowids) i None) ≡ true → get_or bits i false ≡ true
is_set [] rowids i same used = used
is_set (bit ∷ bits) [] i same used = absurd (omega (arith, same))
is_set (bit ∷ bits) (rowid ∷ rowids) zero same used = sym (some_row bit rowid) ∙ used
is_set (bit ∷ bits) (rowid ∷ rowids) (suc i) same used = is_set bits rowids i (omega (arith, same)) used

pub set_within : (bits : List Bool) (i : ℕ) → get_or bits i false ≡ true → i < length bits
set_within [] i there = absurd cc
set_within (bit ∷ bits) zero there = omega arith
set_within (bit ∷ bits) (suc i) there = omega (arith, set_within bits i there)

abbrev num : Bool → ℕ
num bit = cond bit 1 0

-- a slot more is used, or one less
pub one_more : (bits : List Bool) (i : ℕ) → i < length bits → get_or bits i false ≡ false → count_by (λ bit. bit) (set bits i true) ≡ count_by (λ bit. bit) bits + 1
one_more bits i lt clear =
    let all = sum_by-set (λ bit. cond bit 1 0) bits i true false lt in
    let none = ap (λ bit. num bit) clear in
    omega (arith, all, none)

pub one_less : (bits : List Bool) (i : ℕ) → get_or bits i false ≡ true → count_by (λ bit. bit) (set bits i false) + 1 ≡ count_by (λ bit. bit) bits
one_less bits i there =
    let all = sum_by-set (λ bit. cond bit 1 0) bits i false false (set_within bits i there) in
    let one = ap (λ bit. num bit) there in
    omega (arith, all, one)
