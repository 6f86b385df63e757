-- Ids paired with rowids: what one pair more, less or changed leaves of them.
use Rattle.std.proofs.Common.{◌≡◌, ℕ, ◌<◌, ◌≤◌, Bool, true, false, if◌then◌else◌, List, length, get_or, set, Equal, refl, sym, ap, ◌∙◌, arith, Some, None, Ok, Err, Result, is_ok, get_or-set_same, length-set}
use Rattle.std.specs.Prelude.{OnOk, [], pos}
use Rattle.std.specs.Cmp.Lexicographic.{slice_cmp, texts_ties}
use Rattle.std.specs.List.{insert, remove, HoldsAt}
use Rattle.std.specs.Option.{option_map}
use Rattle.std.specs.Ordering.{nat_cmp, is_eq}
use Rattle.std.proofs.lemmas.Cmp.{nat_list_cmp_total, tied_itself}
use Rattle.std.proofs.lemmas.List.Edits.{get_or-insert_at, length-insert}
use Rattle.std.proofs.lemmas.List.Folds.{find_past}
use Rattle.std.proofs.lemmas.Slice.Eq.{bytes_eq-Decides}
use Rattle.row_index.specs.declared.entry.IdPair.{IdPair}
use Rattle.row_index.specs.inner.Keys.{IsGap}
use Rattle.row_index.specs.inner.Pairs.{IdsRise, paired}
use Rattle.row_index.proofs.FindLaws.{find-insert, find-remove}
use Rattle.row_index.proofs.KeyLaws.{found, not_found, rises-insert, rises-set, rises-remove}

-- ids that compare as equal are one
pub same_id : (a b : List ℕ) → slice_cmp nat_cmp a b ≡ Equal → a ≡ b
same_id a b equal = (bytes_eq-Decides a b).0 (texts_ties a b ∙ ap is_eq equal)

equal_id : (a : List ℕ) → slice_cmp nat_cmp a a ≡ Equal
equal_id a = tied_itself nat_list_cmp_total a

other_id : (a b : List ℕ) → (b ≡ a → ⊥) → is_eq (slice_cmp nat_cmp a b) ≡ false
other_id a b differ = by_test (is_eq (slice_cmp nat_cmp a b)) refl
  where
    by_test : (t : Bool) → is_eq (slice_cmp nat_cmp a b) ≡ t → is_eq (slice_cmp nat_cmp a b) ≡ false
    by_test true e = absurd (differ (sym ((bytes_eq-Decides a b).0 (texts_ties a b ∙ e))))
    by_test false e = e

pub paired_at : (id : List ℕ) (pairs : List IdPair) (at : ℕ) (d : IdPair) → IdsRise pairs → at < length pairs → slice_cmp nat_cmp (get_or pairs at d).id id ≡ Equal → paired id pairs ≡ Some (get_or pairs at d).rowid
paired_at id pairs at d rise lt equal =
    ap (λ r. option_map (λ (p : IdPair). p.rowid) r) (found (slice_cmp nat_cmp) nat_list_cmp_total (λ (p : IdPair). p.id) id pairs at d rise lt equal)

pub paired_nowhere : (id : List ℕ) (pairs : List IdPair) (at : ℕ) → IsGap (λ pair. slice_cmp nat_cmp pair.id id) pairs at → paired id pairs ≡ None
paired_nowhere id pairs at gap =
    ap (λ r. option_map (λ (p : IdPair). p.rowid) r) (not_found (slice_cmp nat_cmp) (λ (p : IdPair). p.id) id pairs at gap)

-- ---- changes

pub paired-insert : (other : List ℕ) (pairs : List IdPair) (at : ℕ) (pair : IdPair) → at ≤ length pairs → (other ≡ pair.id → ⊥) → paired other (insert pairs at pair) ≡ paired other pairs
paired-insert other pairs at pair le differ =
    ap (λ r. option_map (λ (p : IdPair). p.rowid) r) (find-insert (λ (p : IdPair). is_eq (slice_cmp nat_cmp p.id other)) pairs at pair le (other_id pair.id other differ))

pub paired-set : (other : List ℕ) (pairs : List IdPair) (at : ℕ) (pair d : IdPair) → (get_or pairs at d).id ≡ pair.id → (other ≡ pair.id → ⊥) → paired other (set pairs at pair) ≡ paired other pairs
paired-set other pairs at pair d same differ =
    ap (λ r. option_map (λ (p : IdPair). p.rowid) r)
    (find_past (λ (p : IdPair). is_eq (slice_cmp nat_cmp p.id other)) pairs at pair d (other_id (get_or pairs at d).id other (λ e. differ (e ∙ same))) (other_id pair.id other differ))

pub paired-remove : (other : List ℕ) (pairs : List IdPair) (at : ℕ) (d : IdPair) → at < length pairs → (other ≡ (get_or pairs at d).id → ⊥) → paired other (remove pairs at) ≡ paired other pairs
paired-remove other pairs at d lt differ =
    ap (λ r. option_map (λ (p : IdPair). p.rowid) r)
    (find-remove (λ (p : IdPair). is_eq (slice_cmp nat_cmp p.id other)) pairs at d lt (other_id (get_or pairs at d).id other differ))

-- a pair in place of the one of its id: all ids go on rising, the other ids have what they had, and its own has its rowid
pub rise-set : {R E : Type 0} (result : Result R E) (pairs new : List IdPair) (at : ℕ) (pair d : IdPair) → at < length pairs → slice_cmp nat_cmp (get_or pairs at d).id pair.id ≡ Equal → IdsRise pairs → new ≡ (if is_ok result then set pairs at pair else pairs) → IdsRise new
rise-set (Ok u) pairs new at pair d lt equal rise is =
    rw is (rises-set (slice_cmp nat_cmp) nat_list_cmp_total (λ (p : IdPair). p.id) pairs at pair d lt equal rise)
rise-set (Err e) pairs new at pair d lt equal rise is = rw is rise

pub others-set : {R E : Type 0} (result : Result R E) (pairs new : List IdPair) (at : ℕ) (pair d : IdPair) → slice_cmp nat_cmp (get_or pairs at d).id pair.id ≡ Equal → new ≡ (if is_ok result then set pairs at pair else pairs) → (other : List ℕ) → (other ≡ pair.id → ⊥) → paired other new ≡ paired other pairs
others-set (Ok u) pairs new at pair d equal is other differ = ap (paired other) is ∙ paired-set other pairs at pair d (same_id (get_or pairs at d).id pair.id equal) differ
others-set (Err e) pairs new at pair d equal is other differ = ap (paired other) is

pub own-set : {R E : Type 0} (result : Result R E) (pairs new : List IdPair) (at : ℕ) (pair d : IdPair) → at < length pairs → slice_cmp nat_cmp (get_or pairs at d).id pair.id ≡ Equal → IdsRise pairs → new ≡ (if is_ok result then set pairs at pair else pairs) → OnOk result (paired pair.id new ≡ Some pair.rowid)
own-set (Ok u) pairs new at pair d lt equal rise is =
    let rises = rises-set (slice_cmp nat_cmp) nat_list_cmp_total (λ (p : IdPair). p.id) pairs at pair d lt equal rise in
    let here = get_or-set_same pairs at pair pair lt in
    let within : at < length (set pairs at pair) = omega (arith, length-set pairs at pair) in
    ap (paired pair.id) is
    ∙ paired_at pair.id (set pairs at pair) at pair rises within (ap (λ (p : IdPair). slice_cmp nat_cmp p.id pair.id) here ∙ equal_id pair.id)
    ∙ ap (λ (p : IdPair). Some p.rowid) here
own-set (Err e) pairs new at pair d lt equal rise is = tt

-- and the same of a pair in the gap of its id
pub rise-insert : {R E : Type 0} (result : Result R E) (pairs new : List IdPair) (at : ℕ) (pair : IdPair) → at ≤ length pairs → IsGap (λ p. slice_cmp nat_cmp p.id pair.id) pairs at → IdsRise pairs → new ≡ (if is_ok result then insert pairs at pair else pairs) → IdsRise new
rise-insert (Ok u) pairs new at pair le gap rise is =
    rw is (rises-insert (slice_cmp nat_cmp) nat_list_cmp_total (λ (p : IdPair). p.id) pairs at pair le gap rise)
rise-insert (Err e) pairs new at pair le gap rise is = rw is rise

pub others-insert : {R E : Type 0} (result : Result R E) (pairs new : List IdPair) (at : ℕ) (pair : IdPair) → at ≤ length pairs → new ≡ (if is_ok result then insert pairs at pair else pairs) → (other : List ℕ) → (other ≡ pair.id → ⊥) → paired other new ≡ paired other pairs
others-insert (Ok u) pairs new at pair le is other differ = ap (paired other) is ∙ paired-insert other pairs at pair le differ
others-insert (Err e) pairs new at pair le is other differ = ap (paired other) is

pub own-insert : {R E : Type 0} (result : Result R E) (pairs new : List IdPair) (at : ℕ) (pair : IdPair) → at ≤ length pairs → IsGap (λ p. slice_cmp nat_cmp p.id pair.id) pairs at → IdsRise pairs → new ≡ (if is_ok result then insert pairs at pair else pairs) → OnOk result (paired pair.id new ≡ Some pair.rowid)
own-insert (Ok u) pairs new at pair le gap rise is =
    let rises = rises-insert (slice_cmp nat_cmp) nat_list_cmp_total (λ (p : IdPair). p.id) pairs at pair le gap rise in
    let here = get_or-insert_at pairs at pair pair le in
    let within : at < length (insert pairs at pair) = omega (arith, length-insert pairs at pair le) in
    ap (paired pair.id) is
    ∙ paired_at pair.id (insert pairs at pair) at pair rises within (ap (λ (p : IdPair). slice_cmp nat_cmp p.id pair.id) here ∙ equal_id pair.id)
    ∙ ap (λ (p : IdPair). Some p.rowid) here
own-insert (Err e) pairs new at pair le gap rise is = tt

-- a pair less: all ids go on rising, and the other ids have what they had
pub rise-remove : {R E : Type 0} (result : Result R E) (pairs new : List IdPair) (at : ℕ) → IdsRise pairs → new ≡ (if is_ok result then remove pairs at else pairs) → IdsRise new
rise-remove (Ok u) pairs new at rise is = rw is (rises-remove (slice_cmp nat_cmp) (λ (p : IdPair). p.id) pairs at rise)
rise-remove (Err e) pairs new at rise is = rw is rise

pub others-remove : {R E : Type 0} (result : Result R E) (pairs new : List IdPair) (at : ℕ) (id : List ℕ) → at < length pairs → HoldsAt (λ p. slice_cmp nat_cmp p.id id ≡ Equal) pairs at → new ≡ (if is_ok result then remove pairs at else pairs) → (other : List ℕ) → (other ≡ id → ⊥) → paired other new ≡ paired other pairs
others-remove (Ok u) pairs new at id lt there is other differ =
    let none : IdPair = record { id = []; rowid = pos 0 } in
    ap (paired other) is ∙ paired-remove other pairs at none lt (λ e. differ (e ∙ same_id (get_or pairs at none).id id (there none)))
others-remove (Err e) pairs new at id lt there is other differ = ap (paired other) is
