-- Pieces that share the chunks.
use Rattle.std.proofs.Common.{◌≡◌, ℕ, zero, suc, ◌+◌, ◌/◌, ◌≤◌, List, [], ◌∷◌, ◌++◌, length, take, drop, refl, sym, ap, ap₂, ◌∙◌, arith}
use Rattle.std.specs.Prelude.{map, filter, flat_map, min}
use Rattle.std.proofs.lemmas.List.{append-nil, append_assoc, take-append-drop, length-append, drop_all, length-map}
use Rattle.std.proofs.lemmas.List.Concat.{flat_map-append}
use Rattle.vec_base.specs.Counts.{raised, summed}
use Rattle.vec_base.specs.declared.limits.TheConstants.{LAST_COUNT}
use Rattle.vec_base.specs.inner.Offers.{offered}
use Rattle.knn_plan.specs.Plans.{Planned, PlannedTarget}
use Rattle.shadow_records.specs.PlacedTables.{PlacedTable}
use Rattle.topk_merge.specs.declared.hit.Hit.{Hit}
use Rattle.topk_merge.specs.Hits.{is_before}
use Rattle.topk_merge.proofs.HitLaws.{merged_hits}
use Rattle.nearest_query.specs.inner.Scanning.{hits_in, hits_over, is_within, ticked}
use Rattle.nearest_query.specs.inner.Pieces.{PieceState, best_of, new_piece, new_pieces, parted, parts_of, piece_scanned, pieces_of, reads_of}
use Rattle.nearest_query.proofs.Gathering.{filter-append}

parts_step : (n m : ℕ) (cs part rest : List ℕ) → n ≡ suc m → part ≡ take (length cs / n) cs → rest ≡ drop (length cs / n) cs → parts_of n cs ≡ part ∷ parts_of m rest
parts_step n m cs part rest is front back =
    ap (λ k. parts_of k cs) is ∙ ap₂ (λ p r. p ∷ parts_of m r) (ap (λ k. take (length cs / k) cs) (sym is) ∙ sym front) (ap (λ k. drop (length cs / k) cs) (sym is) ∙ sym back)

pub parted_step : (pieces n m : ℕ) → n ≡ suc m → parted (raised pieces) m ≡ parted pieces n
parted_step pieces n m is = ap (parted pieces) (sym is)

pub pieces_step : (table : PlacedTable) (plan : Planned) (target : PlannedTarget) (k : ℕ) (old pushed : List PieceState) (piece : PieceState) (n m : ℕ) (cs part rest : List ℕ) → n ≡ suc m → part ≡ take (length cs / n) cs →
    rest ≡ drop (length cs / n) cs → piece ≡ new_piece table plan target k part → pushed ≡ old ++ piece ∷ [] →
    pushed ++ new_pieces table plan target k (parts_of m rest) ≡ old ++ new_pieces table plan target k (parts_of n cs)
pieces_step table plan target k old pushed piece n m cs part rest is front back made push =
    ap (λ l. l ++ new_pieces table plan target k (parts_of m rest)) (push ∙ ap (λ p. old ++ p ∷ []) made)
    ∙ append_assoc old (new_piece table plan target k part ∷ []) (new_pieces table plan target k (parts_of m rest))
    ∙ ap (λ ps. old ++ new_pieces table plan target k ps) (sym (parts_step n m cs part rest is front back))

-- ---- what the pieces found

abbrev pub scanned_pieces : PlacedTable → Planned → PlannedTarget → ℕ → List (List ℕ) → List PieceState
scanned_pieces table plan target k parts = map piece_scanned (new_pieces table plan target k parts)

abbrev within : PlacedTable → Planned → List Hit → List Hit
within table plan hits = filter (is_within table.schema.columns plan.select.where_terms) hits

abbrev over : PlacedTable → Planned → PlannedTarget → List ℕ → List Hit
over table plan target chunks = hits_over table plan.select.where_terms target chunks

best_scanned : (table : PlacedTable) (plan : Planned) (target : PlannedTarget) (k : ℕ) (xs : List Hit) (parts : List (List ℕ)) →
    best_of k (offered is_before k [] xs) (scanned_pieces table plan target k parts) ≡ offered is_before k [] (xs ++ within table plan (flat_map (over table plan target) parts))
best_scanned table plan target k xs [] = ap (offered is_before k []) (sym (append-nil xs))
best_scanned table plan target k xs (p ∷ parts) =
    let here = over table plan target p in
    let rest = flat_map (over table plan target) parts in
    ap (λ hits. best_of k hits (scanned_pieces table plan target k parts)) (merged_hits k xs (within table plan here))
    ∙ best_scanned table plan target k (xs ++ within table plan here) parts
    ∙ ap (offered is_before k [])
    (append_assoc xs (within table plan here) (within table plan rest) ∙ ap (λ l. xs ++ l) (sym (filter-append (is_within table.schema.columns plan.select.where_terms) here rest)))

drop_whole : (cs : List ℕ) → drop (length cs / 1) cs ≡ []
drop_whole cs = ap (λ n. drop n cs) (let e : length cs / 1 ≡ length cs = grind arith in e) ∙ drop_all (length cs) cs (omega arith)

rest_of : (n : ℕ) (cs : List ℕ) → n ≡ 0 → drop (length cs / suc n) cs ≡ []
rest_of n cs none = ap (λ m. drop (length cs / suc m) cs) none ∙ drop_whole cs

parts_whole : (table : PlacedTable) (plan : Planned) (target : PlannedTarget) (n : ℕ) (cs : List ℕ) → (n ≡ 0 → cs ≡ []) → flat_map (over table plan target) (parts_of n cs) ≡ over table plan target cs
parts_whole table plan target zero cs none = ap (over table plan target) (sym (none refl))
parts_whole table plan target (suc n) cs none =
    let m = length cs / suc n in
    ap (λ l. over table plan target (take m cs) ++ l) (parts_whole table plan target n (drop m cs) (rest_of n cs))
    ∙ sym (flat_map-append (hits_in table plan.select.where_terms target) (take m cs) (drop m cs))
    ∙ ap (over table plan target) (take-append-drop m cs)

length_parts : (n : ℕ) (cs : List ℕ) → length (parts_of n cs) ≡ n
length_parts zero cs = refl
length_parts (suc n) cs = ap suc (length_parts n (drop (length cs / suc n) cs))

-- ---- what they counted

summed-most : (a b : ℕ) → summed a b ≤ a + b
summed-most a b = grind arith

summed-least : (a b : ℕ) → min a LAST_COUNT ≤ summed a b
summed-least a b = grind arith

ticked-most : (n reads : ℕ) → ticked reads n ≤ reads + n
ticked-most zero reads = omega arith
ticked-most (suc n) reads = let rest = ticked-most n reads in let one = summed-most (ticked reads n) 1 in omega (arith, rest, one)

reads_most : (table : PlacedTable) (plan : Planned) (target : PlannedTarget) (k reads : ℕ) (parts : List (List ℕ)) →
    reads_of reads (scanned_pieces table plan target k parts) ≤ reads + length (flat_map (over table plan target) parts)
reads_most table plan target k reads [] = omega arith
reads_most table plan target k reads (p ∷ parts) =
    let hits = over table plan target p in
    let counted = ticked 0 (length hits) in
    let here = ticked-most (length hits) 0 in
    let sum = summed-most reads counted in
    let rest = reads_most table plan target k (summed reads counted) parts in
    let both = length-append hits (flat_map (over table plan target) parts) in
    omega (arith, here, sum, rest, both)

pieces_least : (count : ℕ) (ps : List PieceState) → min count LAST_COUNT ≤ pieces_of count ps
pieces_least count [] = grind arith
pieces_least count (p ∷ ps) =
    let rest = pieces_least (summed count p.pieces) ps in
    let here = summed-least count p.pieces in
    grind (arith, rest, here)

parted_least : (n pieces : ℕ) → min (pieces + n) LAST_COUNT ≤ parted pieces n
parted_least zero pieces = grind arith
parted_least (suc n) pieces = let rest = parted_least n (raised pieces) in grind (arith, rest)

parted_most : (n pieces : ℕ) → parted pieces n ≤ pieces + n
parted_most zero pieces = omega arith
parted_most (suc n) pieces = let rest = parted_most n (raised pieces) in let one = summed-most pieces 1 in omega (arith, rest, one)

pieces_most : (table : PlacedTable) (plan : Planned) (target : PlannedTarget) (k count : ℕ) (parts : List (List ℕ)) → pieces_of count (scanned_pieces table plan target k parts) ≤ count
pieces_most table plan target k count [] = omega arith
pieces_most table plan target k count (p ∷ parts) =
    let sum = summed-most count 0 in
    let rest = pieces_most table plan target k (summed count 0) parts in
    omega (arith, sum, rest)

-- ---- put together

-- the pieces that are gathered
pub gathered_from : (table : PlacedTable) (plan : Planned) (target : PlannedTarget) (k count : ℕ) (chunks : List ℕ) (made added slice back : List PieceState) → made ≡ [] → added ≡ made ++ new_pieces table plan target k (parts_of count chunks) →
    slice ≡ added → back ≡ map piece_scanned slice → back ≡ scanned_pieces table plan target k (parts_of count chunks)
gathered_from table plan target k count chunks made added slice back none add same scan =
    scan ∙ ap (map piece_scanned) (same ∙ add ∙ ap (λ l. l ++ new_pieces table plan target k (parts_of count chunks)) none)

pub hits_gathered : (table : PlacedTable) (plan : Planned) (target : PlannedTarget) (k count : ℕ) (chunks : List ℕ) (pieces : List PieceState) (room : ℕ) (first hits : List Hit) → (count ≡ 0 → chunks ≡ []) →
    pieces ≡ scanned_pieces table plan target k (parts_of count chunks) → room ≡ k → first ≡ [] → hits ≡ best_of room first pieces →
    hits ≡ offered is_before k [] (filter (is_within table.schema.columns plan.select.where_terms) (hits_over table plan.select.where_terms target chunks))
hits_gathered table plan target k count chunks pieces room first hits some are same none is =
    is ∙ ap (λ r. best_of r first pieces) same ∙ ap (λ f. best_of k f pieces) none ∙ ap (best_of k []) are ∙ best_scanned table plan target k [] (parts_of count chunks)
    ∙ ap (λ l. offered is_before k [] (within table plan l)) (parts_whole table plan target count chunks some)

pub reads_gathered : (table : PlacedTable) (plan : Planned) (target : PlannedTarget) (k count : ℕ) (chunks : List ℕ) (pieces : List PieceState) (old split new : ℕ) → (count ≡ 0 → chunks ≡ []) →
    pieces ≡ scanned_pieces table plan target k (parts_of count chunks) → split ≡ old → new ≡ reads_of split pieces → new ≤ old + length (hits_over table plan.select.where_terms target chunks)
reads_gathered table plan target k count chunks pieces old split new some are same is =
    let work = is ∙ ap (reads_of split) are in
    let most = reads_most table plan target k split (parts_of count chunks) in
    let whole = ap length (parts_whole table plan target count chunks some) in
    omega (arith, work, most, whole, same)

pub pieces_gathered : (pieces : List PieceState) (old split new count : ℕ) → split ≡ parted old count → new ≡ pieces_of split pieces → min (old + count) LAST_COUNT ≤ new
pieces_gathered pieces old split new count parts is =
    let least = pieces_least split pieces in
    let some = parted_least count old in
    grind (arith, is, least, some, parts)

pub most_gathered : (table : PlacedTable) (plan : Planned) (target : PlannedTarget) (k count : ℕ) (chunks : List ℕ) (pieces : List PieceState) (old split new : ℕ) → pieces ≡ scanned_pieces table plan target k (parts_of count chunks) →
    split ≡ parted old count → new ≡ pieces_of split pieces → new ≤ old + count
most_gathered table plan target k count chunks pieces old split new are parts is =
    let work = is ∙ ap (pieces_of split) are in
    let most = pieces_most table plan target k split (parts_of count chunks) in
    let some = parted_most count old in
    omega (arith, work, most, some, parts)

pub few_pieces : (table : PlacedTable) (plan : Planned) (target : PlannedTarget) (k count : ℕ) (chunks : List ℕ) (made added slice : List PieceState) → made ≡ [] → added ≡ made ++ new_pieces table plan target k (parts_of count chunks) →
    slice ≡ added → length slice ≡ count
few_pieces table plan target k count chunks made added slice none add same =
    ap length (same ∙ add ∙ ap (λ l. l ++ new_pieces table plan target k (parts_of count chunks)) none) ∙ length-map (parts_of count chunks) (new_piece table plan target k) ∙ length_parts count chunks
