-- Vectors in blocks: what a write into one block leaves of each.
use Rattle.std.proofs.Common.{◌≡◌, ◌≢◌, ◌≤◌, ◌<◌, ◌+◌, ◌-◌, ◌*◌, ◌/◌, ◌%◌, ℕ, suc, zero, List, [], ◌∷◌, length, take, drop, get_or, set, ⊎_elim, refl, sym, ap, ap₂, ◌∙◌, slice_get, arith, length-set, length-append, length-take, length-drop}
use Rattle.std.proofs.lemmas.Bool.{cases_eq, cases_lt}
use Rattle.std.proofs.lemmas.List.{same_lists, get_or_read, drop-take, get_or-set_same, get_or-set_other}
use Rattle.std.proofs.lemmas.List.Elements.{All-set}
use Rattle.std.proofs.lemmas.List.FromFn.{length-map-range_with_len, get_or-map-range_with_len}
use Rattle.std.proofs.lemmas.Option.{get_or_from_slice_get, slice_get_within, slice_get_read}
use Rattle.std.proofs.lemmas.Slice.{between-put_mid, take-put_mid_below, drop-put_mid}
use Rattle.shared_leaves.specs.Edits.{edited_at, HoldsAt}
use Rattle.chunk_slots.specs.inner.Blocks.{VectorColumn, overwritten, vector_in, column_of, column_with, AreBlocks}

-- a vector before another one ends before it
pub ends_before : (i j w : ℕ) → i < j → i * w + w ≤ j * w
ends_before i j w lt = grind arith

length_overwritten : (at : ℕ) (v b : List ℕ) → at + length v ≤ length b → length (overwritten at v b) ≡ length b
length_overwritten at v b within = grind (arith, length-append, length-take, length-drop)

written_there : (at w : ℕ) (v b : List ℕ) → length v ≡ w → at + w ≤ length b → take w (drop at (overwritten at v b)) ≡ v
written_there at w v b same within =
    let count : at + w - at ≡ w = omega arith in
    ap (λ n. take n (drop at (overwritten at v b))) (sym count)
    ∙ between-put_mid at (length v) b v (at + w) (omega (arith, within)) (omega (arith, same))

written_behind : (at n w : ℕ) (v b : List ℕ) → n + w ≤ at → at ≤ length b → take w (drop n (overwritten at v b)) ≡ take w (drop n b)
written_behind at n w v b before within =
    sym (drop-take n w (overwritten at v b))
    ∙ ap (drop n) (take-put_mid_below at (length v) b v (n + w) before within)
    ∙ drop-take n w b

written_before : (at n w : ℕ) (v b : List ℕ) → at + length v ≤ n → at ≤ length b → take w (drop n (overwritten at v b)) ≡ take w (drop n b)
written_before at n w v b behind within = ap (take w) (drop-put_mid at (length v) b v n behind within refl)

written_elsewhere : (i j w : ℕ) (v b : List ℕ) → j ≢ i → length v ≡ w → i * w + w ≤ length b → take w (drop (j * w) (overwritten (i * w) v b)) ≡ take w (drop (j * w) b)
written_elsewhere i j w v b apart same within =
    ⊎_elim
    (λ (lt : j < i). written_behind (i * w) (j * w) w v b (ends_before j i w lt) (omega (arith, within)))
    (λ (le : i ≤ j).
    let lt : i < j = omega (arith, le, apart) in
    written_before (i * w) (j * w) w v b (omega (arith, ends_before i j w lt, same)) (omega (arith, within)))
    (cases_lt j i)

-- an item changed is put in the place of what it was
edited-is : {A : Type 0} (change : A → A) (xs : List A) (at : ℕ) (d : A) → at < length xs → edited_at change at xs ≡ set xs at (change (get_or xs at d))
edited-is change [] at d lt = absurd (omega (arith, lt))
edited-is change (x ∷ xs) zero d lt = refl
edited-is change (x ∷ xs) (suc at) d lt = ap (λ l. x ∷ l) (edited-is change xs at d (omega arith))

pub length_column : (w : ℕ) (blocks : List (List ℕ)) → length (column_of w blocks).vectors ≡ 8 * length blocks
length_column w blocks = length-map-range_with_len (vector_in w blocks) 0 (8 * length blocks)

pub get_vector : (w : ℕ) (blocks : List (List ℕ)) (s : ℕ) (d : List ℕ) → s < 8 * length blocks → get_or (column_of w blocks).vectors s d ≡ vector_in w blocks s
get_vector w blocks s d lt = get_or-map-range_with_len (vector_in w blocks) 0 (8 * length blocks) s s d lt (let e : 0 + s ≡ s = omega arith in e)

block_length : (w : ℕ) (blocks : List (List ℕ)) (k : ℕ) → AreBlocks w blocks → k < length blocks → length (get_or blocks k []) ≡ 8 * w
block_length w blocks k are lt = are k [] lt

-- the vector of a slot lies in its block
pub within_block : (w s : ℕ) (block : List ℕ) → length block ≡ 8 * w → s % 8 * w + w ≤ length block
within_block w s block same =
    let lt : s % 8 < 8 = omega arith in
    omega (arith, ends_before (s % 8) 8 w lt, same)

pub within_there : (w s : ℕ) (blocks : List (List ℕ)) → AreBlocks w blocks → HoldsAt (λ block. s % 8 * w + w ≤ length block) (s / 8) blocks
within_there w s blocks are = λ block there.
    let is = get_or_from_slice_get blocks (s / 8) block [] there in
    within_block w s block (ap length (sym is) ∙ block_length w blocks (s / 8) are (slice_get_within blocks (s / 8) block there))

pub vector_width : (w : ℕ) (blocks : List (List ℕ)) (s : ℕ) → AreBlocks w blocks → s < 8 * length blocks → length (vector_in w blocks s) ≡ w
vector_width w blocks s are lt =
    let within = within_block w s (get_or blocks (s / 8) []) (block_length w blocks (s / 8) are (omega (arith, lt))) in
    omega (arith, length-take w (drop (s % 8 * w) (get_or blocks (s / 8) [])), length-drop (s % 8 * w) (get_or blocks (s / 8) []), within)

-- the vector of each slot after a write of one
vector_after : (w s k : ℕ) (v : List ℕ) (blocks : List (List ℕ)) → length v ≡ w → AreBlocks w blocks → s < 8 * length blocks → k ≢ s →
    vector_in w (set blocks (s / 8) (overwritten (s % 8 * w) v (get_or blocks (s / 8) []))) k ≡ vector_in w blocks k
vector_after w s k v blocks same are lt apart =
    let b = get_or blocks (s / 8) [] in
    ⊎_elim
    (λ (here : k / 8 ≡ s / 8).
    let other : k % 8 ≢ s % 8 = λ (e : k % 8 ≡ s % 8). apart (omega (arith, here, e)) in
    ap (λ n. take w (drop (k % 8 * w) (get_or (set blocks (s / 8) (overwritten (s % 8 * w) v b)) n []))) here
    ∙ ap (λ l. take w (drop (k % 8 * w) l)) (get_or-set_same blocks (s / 8) (overwritten (s % 8 * w) v b) [] (omega (arith, lt)))
    ∙ written_elsewhere (s % 8) (k % 8) w v b other same (within_block w s b (block_length w blocks (s / 8) are (omega (arith, lt))))
    ∙ ap (λ n. take w (drop (k % 8 * w) (get_or blocks n []))) (sym here))
    (λ (there : k / 8 ≡ s / 8 → ⊥).
    ap (λ l. take w (drop (k % 8 * w) l)) (get_or-set_other blocks (s / 8) (k / 8) (overwritten (s % 8 * w) v b) [] there))
    (cases_eq (k / 8) (s / 8))

vector_new : (w s : ℕ) (v : List ℕ) (blocks : List (List ℕ)) → length v ≡ w → AreBlocks w blocks → s < 8 * length blocks →
    vector_in w (set blocks (s / 8) (overwritten (s % 8 * w) v (get_or blocks (s / 8) []))) s ≡ v
vector_new w s v blocks same are lt =
    let b = get_or blocks (s / 8) [] in
    ap (λ l. take w (drop (s % 8 * w) l)) (get_or-set_same blocks (s / 8) (overwritten (s % 8 * w) v b) [] (omega (arith, lt)))
    ∙ written_there (s % 8 * w) w v b same (within_block w s b (block_length w blocks (s / 8) are (omega (arith, lt))))

-- one write sets one vector of the column
pub vectors_after : (w s : ℕ) (v : List ℕ) (blocks : List (List ℕ)) → length v ≡ w → AreBlocks w blocks → s < 8 * length blocks →
    (column_of w (set blocks (s / 8) (overwritten (s % 8 * w) v (get_or blocks (s / 8) [])))).vectors ≡ set (column_of w blocks).vectors s v
vectors_after w s v blocks same are lt =
    let new = set blocks (s / 8) (overwritten (s % 8 * w) v (get_or blocks (s / 8) [])) in
    let count : length new ≡ length blocks = length-set blocks (s / 8) (overwritten (s % 8 * w) v (get_or blocks (s / 8) [])) in
    let old = length_column w blocks in
    same_lists (column_of w new).vectors (set (column_of w blocks).vectors s v)
    (omega (arith, length_column w new, count, old, length-set (column_of w blocks).vectors s v))
    (λ k d within.
    let small : k < 8 * length blocks = omega (arith, within, length_column w new, count) in
    get_vector w new k d (omega (arith, small, count)) ∙
    ⊎_elim
    (λ (e : k ≡ s).
    ap (vector_in w new) e ∙ vector_new w s v blocks same are lt
    ∙ sym (get_or-set_same (column_of w blocks).vectors s v d (omega (arith, lt, old)))
    ∙ ap (λ n. get_or (set (column_of w blocks).vectors s v) n d) (sym e))
    (λ (n : k ≡ s → ⊥).
    vector_after w s k v blocks same are lt n
    ∙ sym (get_vector w blocks k d small)
    ∙ sym (get_or-set_other (column_of w blocks).vectors s k v d n))
    (cases_eq k s))

pub column_edited : (w s : ℕ) (v : List ℕ) (blocks : List (List ℕ)) → length v ≡ w → AreBlocks w blocks → s < 8 * length blocks →
    column_of w (edited_at (overwritten (s % 8 * w) v) (s / 8) blocks) ≡ column_with s v (column_of w blocks)
column_edited w s v blocks same are lt =
    ap (column_of w) (edited-is (overwritten (s % 8 * w) v) blocks (s / 8) [] (omega (arith, lt)))
    ∙ ap (λ vs. record { width = w; vectors = vs }) (vectors_after w s v blocks same are lt)

pub blocks_edited : (w s : ℕ) (v : List ℕ) (blocks : List (List ℕ)) → length v ≡ w → AreBlocks w blocks → s < 8 * length blocks →
    AreBlocks w (edited_at (overwritten (s % 8 * w) v) (s / 8) blocks)
blocks_edited w s v blocks same are lt =
    let b = get_or blocks (s / 8) [] in
    let whole = block_length w blocks (s / 8) are (omega (arith, lt)) in
    rw (edited-is (overwritten (s % 8 * w) v) blocks (s / 8) [] (omega (arith, lt)))
    (All-set (λ block. length block ≡ 8 * w) blocks (s / 8) (overwritten (s % 8 * w) v b)
    (length_overwritten (s % 8 * w) v b (omega (arith, within_block w s b whole, same)) ∙ whole) are)

-- what is known where a slot's block and place are told by equations
start_is : (w s n start : ℕ) → n ≡ w → start ≡ s % 8 * n → start ≡ s % 8 * w
start_is w s n start width is = is ∙ ap (λ m. s % 8 * m) width

pub block_there : (w s at : ℕ) (blocks : List (List ℕ)) (column : VectorColumn) → column_of w blocks ≡ column → s < length column.vectors → at ≡ s / 8 → at < length blocks
block_there w s at blocks column seen lt place = omega (arith, lt, place, ap (λ c. length c.vectors) seen, length_column w blocks)

pub slot_within : (w s : ℕ) (blocks : List (List ℕ)) (column : VectorColumn) → column_of w blocks ≡ column → s < length column.vectors → s < 8 * length blocks
slot_within w s blocks column seen lt = omega (arith, lt, ap (λ c. length c.vectors) seen, length_column w blocks)

pub takes_there : (w s n k start at : ℕ) (blocks : List (List ℕ)) → n ≡ w → k ≡ w → start ≡ s % 8 * n → at ≡ s / 8 → AreBlocks w blocks → HoldsAt (λ block. start + k ≤ length block) at blocks
takes_there w s n k start at blocks width count is place are = λ block there.
    omega (arith, within_there w s blocks are block (ap (slice_get blocks) (sym place) ∙ there), count, start_is w s n start width is)

pub part_there : (w s n start at : ℕ) (blocks : List (List ℕ)) (block : List ℕ) → n ≡ w → start ≡ s % 8 * n → at ≡ s / 8 → AreBlocks w blocks → at < length blocks → block ≡ get_or blocks at block →
    start + n ≤ length block
part_there w s n start at blocks block width is place are lt there =
    takes_there w s n n start at blocks width width is place are block (slice_get_read blocks (length blocks) at block refl lt there)

pub vector_part : (w s n start at : ℕ) (blocks : List (List ℕ)) (block : List ℕ) (column : VectorColumn) → n ≡ w → start ≡ s % 8 * n → at ≡ s / 8 → block ≡ get_or blocks at block →
    column_of w blocks ≡ column → s < length column.vectors → take n (drop start block) ≡ get_or column.vectors s []
vector_part w s n start at blocks block column width is place there seen lt =
    let within = block_there w s at blocks column seen lt place in
    ap₂ (λ m p. take m (drop p block)) width (start_is w s n start width is)
    ∙ ap (λ l. take w (drop (s % 8 * w) l)) (get_or_read blocks at block within there [])
    ∙ ap (λ k. take w (drop (s % 8 * w) (get_or blocks k []))) place
    ∙ sym (get_vector w blocks s [] (slot_within w s blocks column seen lt))
    ∙ ap (λ c. get_or c.vectors s []) seen

pub edited_column : (w s n start at : ℕ) (v : List ℕ) (blocks new : List (List ℕ)) (column : VectorColumn) → n ≡ w → start ≡ s % 8 * n → at ≡ s / 8 → length v ≡ w → AreBlocks w blocks →
    column_of w blocks ≡ column → s < length column.vectors → new ≡ edited_at (overwritten start v) at blocks → column_of w new ≡ column_with s v column
edited_column w s n start at v blocks new column width is place same are seen lt made =
    ap (column_of w) made
    ∙ ap₂ (λ p k. column_of w (edited_at (overwritten p v) k blocks)) (start_is w s n start width is) place
    ∙ column_edited w s v blocks same are (slot_within w s blocks column seen lt)
    ∙ ap (column_with s v) seen

pub edited_blocks : (w s n start at : ℕ) (v : List ℕ) (blocks new : List (List ℕ)) (column : VectorColumn) → n ≡ w → start ≡ s % 8 * n → at ≡ s / 8 → length v ≡ w → AreBlocks w blocks →
    column_of w blocks ≡ column → s < length column.vectors → new ≡ edited_at (overwritten start v) at blocks → AreBlocks w new
edited_blocks w s n start at v blocks new column width is place same are seen lt made =
    let now : new ≡ edited_at (overwritten (s % 8 * w) v) (s / 8) blocks =
    made ∙ ap₂ (λ p k. edited_at (overwritten p v) k blocks) (start_is w s n start width is) place in
    rw now (blocks_edited w s v blocks same are (slot_within w s blocks column seen lt))
