-- What is found at a slot, and what is found one after another.
use Rattle.std.proofs.Common.{◌≡◌, ℕ, zero, suc, ℤ, ◌+◌, ◌<◌, Bool, true, false, cond, List, [], ◌∷◌, length, refl, sym, ap, ap₂, ◌∙◌, arith, Some, None, Option, take, ◌++◌, get_or, add-one}
use Rattle.std.specs.Prelude.{◌&&◌, if◌then◌else◌, slice_index_or, filter, flat_map, map, is_some}
use Rattle.std.specs.List.{list_all}
use Rattle.std.specs.Option.{option_map}
use Rattle.std.proofs.lemmas.Bool.{false≢true}
use Rattle.std.proofs.lemmas.List.{append-nil, length-append, take_more, get_or-map}
use Rattle.std.proofs.lemmas.List.Concat.{flat_map-append}
use Rattle.vec_base.specs.Counts.{raised}
use Rattle.vec_base.specs.Ranks.{placed}
use Rattle.vec_base.specs.inner.Offers.{offered}
use Rattle.vec_base.proofs.RankLaws.{offered-append}
use Rattle.chunk_slots.specs.Slots.{Slots, UsedSlot, rowid_of, slot_at, vector_at, vectors_in}
use Rattle.row_model.specs.Answer.{distance_at, vector_of as bytes_of}
use Rattle.row_model.specs.Values.{value_at}
use Rattle.row_model.specs.declared.schema.Column.{Column}
use Rattle.row_model.specs.declared.statement.Constraint.{Constraint}
use Rattle.knn_plan.specs.Levels.{meets_bound, meets_rest}
use Rattle.knn_plan.specs.Plans.{Planned, PlannedTarget}
use Rattle.shadow_records.specs.PlacedTables.{PlacedRow, PlacedTable, row_at}
use Rattle.table_version.specs.Versions.{slot_of_row}
use Rattle.topk_merge.specs.declared.hit.Hit.{Hit}
use Rattle.topk_merge.specs.Hits.{is_before}
use Rattle.topk_merge.specs.Ranking.{Ranking}
use Rattle.nearest_query.specs.Gathered.{up_to, found}
use Rattle.nearest_query.specs.Searches.{meets_all_on_partition, on_row}
use Rattle.nearest_query.specs.inner.Scanning.{IsReady, is_read_row, is_within, meets_all_on_metadata, row_hit, ticked, with_offers}
use Rattle.nearest_query.proofs.Gathering.{filter-append}
use Rattle.nearest_query.proofs.ReadLaws.{read_by_levels}
use Rattle.nearest_query.proofs.VectorLaws.{vector_read}

abbrev pub meets_on_rest : PlacedTable → List Constraint → PlacedRow → Bool
meets_on_rest table terms p = list_all (meets_rest table.schema.columns p.row) terms

middle_false : (a b c : Bool) → b ≡ false → ((a && b) && c) ≡ false
middle_false true false c none = refl
middle_false true true c none = absurd cc
middle_false false b c none = refl

last_false : (a c : Bool) → c ≡ false → (a && c) ≡ false
last_false true c none = none
last_false false c none = refl

all_true : (a b c : Bool) → a ≡ true → b ≡ true → c ≡ true → ((a && b) && c) ≡ true
all_true true true true first second third = refl
all_true true true false first second third = absurd cc
all_true true false c first second third = absurd cc
all_true false b c first second third = absurd cc

pub missing : (table : PlacedTable) (terms : List Constraint) (f : PlacedRow → Hit) (o : Option PlacedRow) → on_row (meets_all_on_metadata table terms) o ≡ false → found (is_read_row table terms) f o ≡ []
missing table terms f None fails = refl
missing table terms f (Some p) fails =
    ap (λ b. if b then f p ∷ [] else [])
    (read_by_levels table.schema.columns p.row terms ∙ middle_false (meets_all_on_partition table terms p) (meets_all_on_metadata table terms p) (meets_on_rest table terms p) fails)

pub failing : (table : PlacedTable) (terms : List Constraint) (f : PlacedRow → Hit) (p : PlacedRow) → meets_on_rest table terms p ≡ false → found (is_read_row table terms) f (Some p) ≡ []
failing table terms f p fails =
    ap (λ b. if b then f p ∷ [] else [])
    (read_by_levels table.schema.columns p.row terms ∙ last_false (meets_all_on_partition table terms p && meets_all_on_metadata table terms p) (meets_on_rest table terms p) fails)

pub passing : (table : PlacedTable) (terms : List Constraint) (f : PlacedRow → Hit) (p : PlacedRow) → meets_all_on_partition table terms p ≡ true → meets_all_on_metadata table terms p ≡ true → meets_on_rest table terms p ≡ true →
    found (is_read_row table terms) f (Some p) ≡ f p ∷ []
passing table terms f p partition metadata rest =
    ap (λ b. if b then f p ∷ [] else [])
    (read_by_levels table.schema.columns p.row terms ∙ all_true (meets_all_on_partition table terms p) (meets_all_on_metadata table terms p) (meets_on_rest table terms p) partition metadata rest)

-- the row of a slot whose bit is set
pub record IsRowOfSlot (table : PlacedTable) (terms : List Constraint) (o : Option PlacedRow) (rowid : ℤ) : Type 0 where
  pub row : PlacedRow
  pub is : o ≡ Some row
  pub metadata : meets_all_on_metadata table terms row ≡ true
  pub same : row.row.rowid ≡ rowid

pub at-slot : (table : PlacedTable) (terms : List Constraint) (o : Option PlacedRow) (bit : Bool) (slot : Option UsedSlot) (rowid : ℤ) → bit ≡ on_row (meets_all_on_metadata table terms) o → bit ≡ true →
    slot ≡ option_map slot_of_row o → rowid_of slot ≡ Some rowid → IsRowOfSlot table terms o rowid
at-slot table terms None bit slot rowid is set kept given = absurd (false≢true (sym is ∙ set))
at-slot table terms (Some p) bit slot rowid is set kept given =
    let same : Some p.row.rowid ≡ Some rowid = ap rowid_of (sym kept) ∙ given in
    record { row = p; is = refl; metadata = sym is ∙ set; same = cc }

-- a slot whose bit is set is used
used_from : (table : PlacedTable) (terms : List Constraint) (o : Option PlacedRow) → on_row (meets_all_on_metadata table terms) o ≡ true → is_some (option_map slot_of_row o) ≡ true
used_from table terms None set = absurd cc
used_from table terms (Some p) set = refl

-- a vector that is read
pub vector-at : (table : PlacedTable) (plan : Planned) (target : PlannedTarget) → IsReady table plan target → (c s : ℕ) (p : PlacedRow) (slots : Slots) (bytes : List ℕ) → row_at table.rows c s ≡ Some p →
    slot_at slots s ≡ option_map slot_of_row (row_at table.rows c s) → bytes ≡ vector_at slots s target.column.number → bytes ≡ bytes_of (value_at target.column.place p.row)
vector-at table plan target ready c s p slots bytes there kept read =
    read
    ∙ ap (λ (o : Option UsedSlot). slice_index_or (vectors_in o) target.column.number []) (kept ∙ ap (option_map slot_of_row) there)
    ∙ vector_read table plan target ready c s p there

-- ---- offers

-- a hit that is offered
pub offered-one : (columns : List Column) (terms : List Constraint) (best new : Ranking) (hit : Hit) → is_within columns terms hit ≡ true → new.room ≡ best.room → new.hits ≡ take best.room (placed is_before hit best.hits) →
    new ≡ with_offers columns terms best (hit ∷ [])
offered-one columns terms best new hit within room hits =
    let ranking : ℕ → List Hit → Ranking = λ r hs. record { room = r; hits = hs } in
    ap₂ ranking room hits ∙ ap (λ b. ranking best.room (offered is_before best.room best.hits (cond b (hit ∷ []) []))) (sym within)

-- one whose distance is out of the bounds
pub offered-none : (columns : List Column) (terms : List Constraint) (best : Ranking) (hit : Hit) → is_within columns terms hit ≡ false → best ≡ with_offers columns terms best (hit ∷ [])
offered-none columns terms best hit outside = ap (λ b. record { room = best.room; hits = offered is_before best.room best.hits (cond b (hit ∷ []) []) }) (sym outside)

-- a row's hit
pub hit-is : (target : PlannedTarget) (p : PlacedRow) (distance : ℕ) (rowid : ℤ) → distance ≡ distance_at target.column.place target.query p.row → p.row.rowid ≡ rowid → record { distance = distance; rowid = rowid } ≡ row_hit target p
hit-is target p distance rowid is same = let hit : ℕ → ℤ → Hit = λ d r. record { distance = d; rowid = r } in ap₂ hit is (sym same)

-- the row whose vector was read, where its distance meets the terms on it
pub read-offered : (columns : List Column) (terms : List Constraint) (best new : Ranking) (target : PlannedTarget) (p : PlacedRow) (distance : ℕ) (rowid : ℤ) → distance ≡ distance_at target.column.place target.query p.row → p.row.rowid ≡ rowid →
    list_all (meets_bound columns distance) terms ≡ true → new.room ≡ best.room → new.hits ≡ take best.room (placed is_before (record { distance = distance; rowid = rowid }) best.hits) →
    new ≡ with_offers columns terms best (row_hit target p ∷ [])
read-offered columns terms best new target p distance rowid is same within room hits =
    offered-one columns terms best new (record { distance = distance; rowid = rowid }) within room hits
    ∙ ap (λ (h : Hit). with_offers columns terms best (h ∷ [])) (hit-is target p distance rowid is same)

-- and where it does not
pub read-left : (columns : List Column) (terms : List Constraint) (best : Ranking) (target : PlannedTarget) (p : PlacedRow) (distance : ℕ) → distance ≡ distance_at target.column.place target.query p.row →
    list_all (meets_bound columns distance) terms ≡ false → best ≡ with_offers columns terms best (row_hit target p ∷ [])
read-left columns terms best target p distance is outside =
    offered-none columns terms best (row_hit target p) (ap (λ (d : ℕ). list_all (meets_bound columns d) terms) (sym is) ∙ outside)

-- ---- one after another

offers-append : (columns : List Column) (terms : List Constraint) (best : Ranking) (xs ys : List Hit) → with_offers columns terms (with_offers columns terms best xs) ys ≡ with_offers columns terms best (xs ++ ys)
offers-append columns terms best xs ys =
    let ranking : List Hit → Ranking = λ hs. record { room = best.room; hits = hs } in
    ap ranking (sym (offered-append is_before best.room best.hits (filter (is_within columns terms) xs) (filter (is_within columns terms) ys))
    ∙ ap (offered is_before best.room best.hits) (sym (filter-append (is_within columns terms) xs ys)))

ticked-add : (reads m n : ℕ) → ticked (ticked reads m) n ≡ ticked reads (n + m)
ticked-add reads m zero = ap (ticked reads) (let e : m ≡ 0 + m = omega arith in e)
ticked-add reads m (suc n) = ap raised (ticked-add reads m n) ∙ ap (ticked reads) (let e : suc (n + m) ≡ suc n + m = omega arith in e)

ticked-append : (reads : ℕ) (xs ys : List Hit) → ticked (ticked reads (length xs)) (length ys) ≡ ticked reads (length (xs ++ ys))
ticked-append reads xs ys = ticked-add reads (length xs) (length ys) ∙ ap (ticked reads) (let both = length-append xs ys in let e : length ys + length xs ≡ length (xs ++ ys) = omega (arith, both) in e)

pub offers-more : (columns : List Column) (terms : List Constraint) (best now new : Ranking) (f : ℕ → List Hit) (i : ℕ) → now ≡ with_offers columns terms best (up_to f i) → new ≡ with_offers columns terms now (f i) →
    new ≡ with_offers columns terms best (up_to f (i + 1))
offers-more columns terms best now new f i so_far step =
    step ∙ ap (λ b. with_offers columns terms b (f i)) so_far ∙ offers-append columns terms best (up_to f i) (f i) ∙ ap (λ n. with_offers columns terms best (up_to f n)) (sym (add-one i))

pub ticks-more : (reads now new : ℕ) (f : ℕ → List Hit) (i : ℕ) → now ≡ ticked reads (length (up_to f i)) → new ≡ ticked now (length (f i)) → new ≡ ticked reads (length (up_to f (i + 1)))
ticks-more reads now new f i so_far step =
    step ∙ ap (λ w. ticked w (length (f i))) so_far ∙ ticked-append reads (up_to f i) (f i) ∙ ap (λ n. ticked reads (length (up_to f n))) (sym (add-one i))

-- a list's first elements and the next
flat-more : (f : ℕ → List Hit) (cs : List ℕ) (i c : ℕ) → i < length cs → c ≡ get_or cs i c → flat_map f (take i cs) ++ f c ≡ flat_map f (take (i + 1) cs)
flat-more f cs i c less is =
    ap (λ k. flat_map f (take i cs) ++ f k) is
    ∙ ap (λ l. flat_map f (take i cs) ++ l) (sym (append-nil (f (get_or cs i c))))
    ∙ sym (flat_map-append f (take i cs) (get_or cs i c ∷ []))
    ∙ ap (flat_map f) (sym (take_more cs i c less))

pub over-more : (columns : List Column) (terms : List Constraint) (best now new : Ranking) (f : ℕ → List Hit) (cs : List ℕ) (i c : ℕ) → i < length cs → c ≡ get_or cs i c → now ≡ with_offers columns terms best (flat_map f (take i cs)) →
    new ≡ with_offers columns terms now (f c) → new ≡ with_offers columns terms best (flat_map f (take (i + 1) cs))
over-more columns terms best now new f cs i c less is so_far step =
    step ∙ ap (λ b. with_offers columns terms b (f c)) so_far ∙ offers-append columns terms best (flat_map f (take i cs)) (f c) ∙ ap (with_offers columns terms best) (flat-more f cs i c less is)

pub ticks-over : (reads now new : ℕ) (f : ℕ → List Hit) (cs : List ℕ) (i c : ℕ) → i < length cs → c ≡ get_or cs i c → now ≡ ticked reads (length (flat_map f (take i cs))) → new ≡ ticked now (length (f c)) →
    new ≡ ticked reads (length (flat_map f (take (i + 1) cs)))
ticks-over reads now new f cs i c less is so_far step =
    step ∙ ap (λ w. ticked w (length (f c))) so_far ∙ ticked-append reads (flat_map f (take i cs)) (f c) ∙ ap (λ hs. ticked reads (length hs)) (flat-more f cs i c less is)

-- ---- the bits of a chunk

used_of : (o : Option PlacedRow) → is_some (option_map slot_of_row o) ≡ is_some o
used_of None = refl
used_of (Some p) = refl

-- of its used slots
used-bit : (table : PlacedTable) (slots : Slots) (c s : ℕ) → s < length slots.slots → slot_at slots s ≡ option_map slot_of_row (row_at table.rows c s) → get_or (map is_some slots.slots) s false ≡ is_some (row_at table.rows c s)
used-bit table slots c s less kept = get_or-map is_some slots.slots s None false less ∙ ap is_some kept ∙ used_of (row_at table.rows c s)

filtered_at : (table : PlacedTable) (terms : List Constraint) (c s : ℕ) (old new : List Bool) (o : Option PlacedRow) → row_at table.rows c s ≡ o → get_or old s false ≡ is_some o →
    (get_or old s false ≡ false → get_or new s false ≡ false) →
    ((p : PlacedRow) → row_at table.rows c s ≡ Some p → get_or new s false ≡ (get_or old s false && meets_all_on_metadata table terms p)) → get_or new s false ≡ on_row (meets_all_on_metadata table terms) o
filtered_at table terms c s old new None is used cleared passed = cleared used
filtered_at table terms c s old new (Some p) is used cleared passed = passed p is ∙ ap (λ b. b && meets_all_on_metadata table terms p) used

-- after the filters
pub filtered : (table : PlacedTable) (terms : List Constraint) (slots : Slots) (c s : ℕ) (old new : List Bool) → s < length slots.slots → old ≡ map is_some slots.slots → slot_at slots s ≡ option_map slot_of_row (row_at table.rows c s) →
    (get_or old s false ≡ false → get_or new s false ≡ false) →
    ((p : PlacedRow) → row_at table.rows c s ≡ Some p → get_or new s false ≡ (get_or old s false && meets_all_on_metadata table terms p)) →
    get_or new s false ≡ on_row (meets_all_on_metadata table terms) (row_at table.rows c s)
filtered table terms slots c s old new less valid kept cleared passed =
    filtered_at table terms c s old new (row_at table.rows c s) refl (ap (λ l. get_or l s false) valid ∙ used-bit table slots c s less kept) cleared passed
