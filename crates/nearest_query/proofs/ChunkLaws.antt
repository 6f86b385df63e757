-- The chunks whose partition values meet the terms.
use Rattle.std.proofs.Common.{◌≡◌, ℕ, zero, suc, ◌+◌, ◌<◌, Bool, true, false, cond, List, [], ◌∷◌, ◌++◌, refl, sym, ap, ap₂, ◌∙◌, arith, Some, None, Option, inl, inr}
use Rattle.std.specs.Prelude.{◌&&◌, ◌==◌, ◌^◌, if◌then◌else◌, is_some, nat_lt}
use Rattle.std.specs.List.{list_all, AllByRecursion}
use Rattle.std.specs.Option.{option_map}
use Rattle.std.proofs.lemmas.Bool.{and_parts, cases_Bool, false≢true}
use Rattle.std.proofs.lemmas.List.{append-nil}
use Rattle.std.proofs.lemmas.Bool.Decides.{nat_tests}
use Rattle.vec_base.specs.declared.value.Value.{Value}
use Rattle.row_model.specs.Schemas.{is_partition}
use Rattle.row_model.specs.declared.statement.Constraint.{Constraint}
use Rattle.knn_plan.specs.Levels.{meets_on}
use Rattle.knn_plan.specs.PlannedColumns.{term_column}
use Rattle.shadow_records.specs.PlacedTables.{PlacedRow, PlacedTable, IsPlaced, first_in, is_place, row_at}
use Rattle.table_version.specs.Inserting.{partition_in}
use Rattle.nearest_query.specs.Gathered.{up_to}
use Rattle.nearest_query.specs.Searches.{above_chunks, is_wanted, meets_all_on_partition, on_row, one_if_wanted, wanted_below}
use Rattle.nearest_query.specs.inner.Scanning.{IsMetChunk}
use Rattle.nearest_query.proofs.Gathering.{up_to-skip}
use Rattle.nearest_query.proofs.PlaceLaws.{alike_first, first-row, none-in}
use Rattle.nearest_query.proofs.TermFacts.{value_met}

list_all-same : {A : Type 0} (f g : A → Bool) (xs : List A) → ((x : A) → f x ≡ g x) → list_all f xs ≡ list_all g xs
list_all-same f g [] same = refl
list_all-same f g (x ∷ xs) same = ap₂ (λ a b. a && b) (same x) (list_all-same f g xs same)

-- rows of equal partition values meet the same terms on partition columns
alike_met : (table : PlacedTable) (terms : List Constraint) → IsPlaced table → (p q : PlacedRow) (c s d t : ℕ) → row_at table.rows c s ≡ Some p → row_at table.rows d t ≡ Some q →
    partition_in table.schema.columns p ≡ partition_in table.schema.columns q → meets_all_on_partition table terms p ≡ meets_all_on_partition table terms q
alike_met table terms placed p q c s d t at_p at_q alike =
    let columns = table.schema.columns in
    list_all-same (meets_on is_partition columns p.row) (meets_on is_partition columns q.row) terms
    (λ term. sym (value_met table term (term_column columns term) (partition_in columns q) c s p refl placed.valid.values at_p (sym alike))
    ∙ value_met table term (term_column columns term) (partition_in columns q) d t q refl placed.valid.values at_q refl)

wanted_from : (table : PlacedTable) (terms : List Constraint) (c : ℕ) (o : Option PlacedRow) → first_in table.rows c ≡ o → IsPlaced table → (p : PlacedRow) (s : ℕ) → row_at table.rows c s ≡ Some p →
    meets_all_on_partition table terms p ≡ on_row (meets_all_on_partition table terms) o
wanted_from table terms c None is placed p s there = absurd (let none = sym (none-in table.rows c s is) ∙ there in cc)
wanted_from table terms c (Some q) is placed p s there =
    alike_met table terms placed p q c s c q.slot there (first-row table.rows c q is) (alike_first table.schema.columns table.rows c s q p placed.alike is there)

-- a row's chunk is wanted where the row meets the terms on partition columns
pub wanted-row : (table : PlacedTable) (terms : List Constraint) (c : ℕ) → IsPlaced table → (p : PlacedRow) (s : ℕ) → row_at table.rows c s ≡ Some p → meets_all_on_partition table terms p ≡ is_wanted table terms c
wanted-row table terms c placed p s there = wanted_from table terms c (first_in table.rows c) refl placed p s there

no_wanted : (table : PlacedTable) (terms : List Constraint) (c : ℕ) → first_in table.rows c ≡ None → is_wanted table terms c ≡ false
no_wanted table terms c none = ap (on_row (meets_all_on_partition table terms)) none

met_chunk : (table : PlacedTable) (terms : List Constraint) (c : ℕ) → IsPlaced table → is_wanted table terms c ≡ true → IsMetChunk table terms c
met_chunk table terms c placed wanted = record {
  there = λ none. false≢true (sym (no_wanted table terms c none) ∙ wanted);
  met = λ p s there. wanted-row table terms c placed p s there ∙ wanted;
}

-- ---- the list of them

one_none : (table : PlacedTable) (terms : List Constraint) (c : ℕ) → first_in table.rows c ≡ None → one_if_wanted table terms c ≡ []
one_none table terms c none = ap (λ b. if b then c ∷ [] else []) (no_wanted table terms c none)

-- what a place says of its chunk
pub place_parts : (size : ℕ) (p : PlacedRow) → is_place size p ≡ true → (0 < p.chunk) × ((p.chunk < 4294967296) × (p.slot < size))
place_parts size p is =
    let parts = and_parts (nat_lt 0 p.chunk) (nat_lt p.chunk (2 ^ 32) && nat_lt p.slot size) is in
    let more = and_parts (nat_lt p.chunk (2 ^ 32)) (nat_lt p.slot size) parts.1 in
    let first = parts.0 in
    let second = more.0 in
    let third = more.1 in
    (grind (arith, nat_tests, first), (grind (arith, nat_tests, second), grind (arith, nat_tests, third)))

no_zero : (size : ℕ) (rows : List PlacedRow) → list_all (is_place size) rows ≡ true → first_in rows 0 ≡ None
no_zero size [] all = refl
no_zero size (p ∷ rows) all =
    let parts = and_parts (is_place size p) (list_all (is_place size) rows) all in
    let less = (place_parts size p parts.0).0 in
    let above : p.chunk == 0 ≡ false = grind (arith, less) in
    ap (λ b. cond b (Some p) (first_in rows 0)) above ∙ no_zero size rows parts.1

pub wanted-start : (table : PlacedTable) (terms : List Constraint) → IsPlaced table → [] ≡ wanted_below table terms 1
wanted-start table terms placed = sym (one_none table terms 0 (no_zero table.schema.chunk_size table.rows placed.places))

wanted_more : (table : PlacedTable) (terms : List Constraint) (m c : ℕ) → m < c → ((d : ℕ) → m < d → d < c → first_in table.rows d ≡ None) →
    wanted_below table terms (m + 1) ++ one_if_wanted table terms c ≡ wanted_below table terms (c + 1)
wanted_more table terms m c less none =
    ap (λ l. l ++ one_if_wanted table terms c) (sym (up_to-skip (one_if_wanted table terms) (m + 1) c (omega arith) (λ d low high. one_none table terms d (none d (omega arith) high))))
    ∙ ap (up_to (one_if_wanted table terms)) (let e : suc c ≡ c + 1 = omega arith in e)

pub wanted-end : (table : PlacedTable) (terms : List Constraint) (m n : ℕ) → m < n → ((d : ℕ) → m < d → first_in table.rows d ≡ None) → wanted_below table terms (m + 1) ≡ wanted_below table terms n
wanted-end table terms m n less none = sym (up_to-skip (one_if_wanted table terms) (m + 1) n (omega arith) (λ d low high. one_none table terms d (none d (omega arith))))

first_from : (table : PlacedTable) (c : ℕ) (values : List Value) (o : Option PlacedRow) → first_in table.rows c ≡ o → Some values ≡ option_map (partition_in table.schema.columns) o →
    (p : PlacedRow) × ((first_in table.rows c ≡ Some p) × (values ≡ partition_in table.schema.columns p))
first_from table c values None e is = absurd cc
first_from table c values (Some p) e is = let same : values ≡ partition_in table.schema.columns p = cc in (p, (e, same))

-- the first row of a chunk that has partition values
pub partition-there : (table : PlacedTable) (c : ℕ) (values : List Value) → Some values ≡ option_map (partition_in table.schema.columns) (first_in table.rows c) →
    (p : PlacedRow) × ((first_in table.rows c ≡ Some p) × (values ≡ partition_in table.schema.columns p))
partition-there table c values is = first_from table c values (first_in table.rows c) refl is

pub wanted-first : (table : PlacedTable) (terms : List Constraint) (c : ℕ) (p : PlacedRow) → first_in table.rows c ≡ Some p → is_wanted table terms c ≡ meets_all_on_partition table terms p
wanted-first table terms c p e = ap (on_row (meets_all_on_partition table terms)) e

none_from : (table : PlacedTable) (o : Option PlacedRow) → None ≡ option_map (partition_in table.schema.columns) o → o ≡ None
none_from table None is = refl
none_from table (Some p) is = absurd cc

-- without partition values the chunk is not there
pub not-there : (table : PlacedTable) (terms : List Constraint) (c : ℕ) → None ≡ option_map (partition_in table.schema.columns) (first_in table.rows c) → false ≡ is_wanted table terms c
not-there table terms c is = sym (no_wanted table terms c (none_from table (first_in table.rows c) is))

pub above-is : above_chunks ≡ 4294967296
unfolding above_chunks
above-is = refl

-- a chunk that is there has a number of 32 bits
below_from : (size : ℕ) (rows : List PlacedRow) (c : ℕ) → list_all (is_place size) rows ≡ true → is_some (first_in rows c) ≡ true → c < 4294967296
below_from size [] c all there = absurd cc
below_from size (p ∷ rows) c all there =
    let parts = and_parts (is_place size p) (list_all (is_place size) rows) all in
    elim (cases_Bool (p.chunk == c)) [
      | inl here ↦ let less = (place_parts size p parts.0).1.0 in let same : p.chunk ≡ c = grind (arith, here) in omega (arith, less, same)
      | inr away ↦ below_from size rows c parts.1 (sym (ap (λ b. is_some (cond b (Some p) (first_in rows c))) away) ∙ there)
    ]

pub below-there : (table : PlacedTable) (c : ℕ) → IsPlaced table → is_some (first_in table.rows c) ≡ true → c < 4294967296
below-there table c placed there = below_from table.schema.chunk_size table.rows c placed.places there

pub no-more : (table : PlacedTable) (terms : List Constraint) (chunks : List ℕ) (m c : ℕ) → chunks ≡ wanted_below table terms (m + 1) → m < c → ((d : ℕ) → m < d → d < c → first_in table.rows d ≡ None) →
    is_wanted table terms c ≡ false → chunks ≡ wanted_below table terms (c + 1)
no-more table terms chunks m c so_far less none fails =
    so_far ∙ sym (append-nil (wanted_below table terms (m + 1))) ∙ ap (λ b. wanted_below table terms (m + 1) ++ (if b then c ∷ [] else [])) (sym fails) ∙ wanted_more table terms m c less none

pub one-more : (table : PlacedTable) (terms : List Constraint) (old new : List ℕ) (m c : ℕ) → old ≡ wanted_below table terms (m + 1) → m < c → ((d : ℕ) → m < d → d < c → first_in table.rows d ≡ None) →
    is_wanted table terms c ≡ true → new ≡ old ++ c ∷ [] → new ≡ wanted_below table terms (c + 1)
one-more table terms old new m c so_far less none passes push =
    push ∙ ap (λ l. l ++ c ∷ []) so_far ∙ ap (λ b. wanted_below table terms (m + 1) ++ (if b then c ∷ [] else [])) (sym passes) ∙ wanted_more table terms m c less none

-- ---- each of them is met

each-append : {A : Type 0} (P : A → Type 0) (xs ys : List A) → AllByRecursion P xs → AllByRecursion P ys → AllByRecursion P (xs ++ ys)
each-append P [] ys first next = next
each-append P (x ∷ xs) ys first next = (first.0, each-append P xs ys first.1 next)

one_met : (table : PlacedTable) (terms : List Constraint) (c : ℕ) → IsPlaced table → (b : Bool) → is_wanted table terms c ≡ b → AllByRecursion (IsMetChunk table terms) (if b then c ∷ [] else [])
one_met table terms c placed true is = (met_chunk table terms c placed is, tt)
one_met table terms c placed false is = tt

pub all-met : (table : PlacedTable) (terms : List Constraint) (n : ℕ) → IsPlaced table → AllByRecursion (IsMetChunk table terms) (wanted_below table terms n)
all-met table terms zero placed = tt
all-met table terms (suc n) placed = each-append (IsMetChunk table terms) (wanted_below table terms n) (one_if_wanted table terms n) (all-met table terms n placed) (one_met table terms n placed (is_wanted table terms n) refl)
