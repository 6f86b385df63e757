-- What a search counts by chunks, told by the rows.
use Rattle.std.proofs.Common.{◌≡◌, ℕ, zero, suc, ◌+◌, ◌-◌, ◌*◌, ◌/◌, ◌<◌, ◌≤◌, min, Bool, true, false, List, [], ◌∷◌, length, Some, None, Option, refl, sym, ap, ◌∙◌, subst, inl, inr, arith, add-mul, div-lt_iff_lt-mul}
use Rattle.std.specs.Prelude.{map, filter}
use Rattle.std.specs.List.{list_all, AllByRecursion}
use Rattle.std.proofs.lemmas.Bool.{and_parts, cases_Bool}
use Rattle.std.proofs.lemmas.List.{length-append, length-map}
use Rattle.vec_base.specs.declared.limits.TheConstants.{LAST_COUNT}
use Rattle.vec_base.specs.declared.steps.Steps.{Steps}
use Rattle.nearest_query.specs.Gathered.{found, found_in, gathered, up_to}
use Rattle.nearest_query.specs.Searches.{above_chunks, is_wanted, meets_all_on_partition, one_if_wanted, wanted_below, wanted_chunks}
use Rattle.nearest_query.proofs.ChunkLaws.{above-is, place_parts, wanted-row}
use Rattle.nearest_query.proofs.Gathering.{gathered-shuffle, length-shuffle, up_to-none}
use Rattle.nearest_query.proofs.PlaceLaws.{are_free}
use Rattle.row_model.specs.Step.{found as found_table}
use Rattle.row_model.specs.declared.row.Named.{Named}
use Rattle.row_model.specs.declared.row.Row.{Row}
use Rattle.row_model.specs.declared.row.Table.{Table}
use Rattle.row_model.specs.declared.statement.Constraint.{Constraint}
use Rattle.row_model.specs.declared.statement.Select.{Select}
use Rattle.shadow_records.specs.PlacedTables.{PlacedRow, PlacedTable, IsPlaced, is_place, plain, plain_rows, row_at}
use Rattle.table_version.proofs.SchemaShape.{chunk-size}
use Rattle.txn_reads.specs.Searches.{CountsRows, chunks_for, meets_partition}
use Rattle.table_version.specs.Versions.{VersionState}
use Rattle.txn_reads.specs.SeenTables.{IsSeen}
use Rattle.txn_reads.specs.inner.TableSearches.{CountsSearch}
use Rattle.txn_reads.proofs.SeenLaws.{some-is}
use Rattle.txn_sessions.specs.Seen.{session_at, state_of}
use Rattle.txn_sessions.specs.declared.machine.Machine.{Machine}

-- ---- rows by chunks

-- at most one of each number
each-one : {A : Type 0} (f : ℕ → List A) (n : ℕ) → ((j : ℕ) → length (f j) ≤ 1) → length (up_to f n) ≤ n
each-one f zero one = omega arith
each-one f (suc n) one =
    let more = length-append (up_to f n) (f n) in
    let before = each-one f n one in
    let last = one n in
    omega (arith, more, before, last)

found-one : (test : PlacedRow → Bool) (o : Option PlacedRow) → length (found test (λ p. p) o) ≤ 1
found-one test None = omega arith
found-one test (Some p) =
    elim (cases_Bool (test p)) [
      | inl passes ↦ rw passes (omega arith)
      | inr fails ↦ rw fails (omega arith)
    ]

-- a row that passes makes its chunk a wanted one
found-nowhere : (table : PlacedTable) (terms : List Constraint) (chunk slot : ℕ) (o : Option PlacedRow) → IsPlaced table → is_wanted table terms chunk ≡ false → row_at table.rows chunk slot ≡ o →
    found (meets_all_on_partition table terms) (λ p. p) o ≡ []
found-nowhere table terms chunk slot None placed away there = refl
found-nowhere table terms chunk slot (Some p) placed away there = rw (wanted-row table terms chunk placed p slot there ∙ away) refl

-- a chunk has at most as many rows as slots, and none that pass where it is not wanted
chunk-rows : (table : PlacedTable) (terms : List Constraint) (chunk : ℕ) → IsPlaced table →
    length (found_in (meets_all_on_partition table terms) (λ p. p) table.rows table.schema.chunk_size chunk) ≤ length (one_if_wanted table terms chunk) * table.schema.chunk_size
chunk-rows table terms chunk placed =
    let size = table.schema.chunk_size in
    let test = meets_all_on_partition table terms in
    elim (cases_Bool (is_wanted table terms chunk)) [
      | inl wanted ↦ rw wanted (let most = each-one (λ slot. found test (λ p. p) (row_at table.rows chunk slot)) size (λ slot. found-one test (row_at table.rows chunk slot)) in omega (arith, most))
      | inr away ↦ rw (away, up_to-none (λ slot. found test (λ p. p) (row_at table.rows chunk slot)) size (λ slot less. found-nowhere table terms chunk slot (row_at table.rows chunk slot) placed away refl)) (omega arith)
    ]

rows-below : (table : PlacedTable) (terms : List Constraint) (n : ℕ) → IsPlaced table →
    length (gathered (meets_all_on_partition table terms) (λ p. p) table.rows table.schema.chunk_size n) ≤ length (wanted_below table terms n) * table.schema.chunk_size
rows-below table terms zero placed = omega arith
rows-below table terms (suc n) placed =
    let size = table.schema.chunk_size in
    let rows = found_in (meets_all_on_partition table terms) (λ p. p) table.rows size in
    let more = length-append (gathered (meets_all_on_partition table terms) (λ p. p) table.rows size n) (rows n) in
    let chunks = ap (λ m. m * size) (length-append (wanted_below table terms n) (one_if_wanted table terms n)) ∙ add-mul (length (wanted_below table terms n)) (length (one_if_wanted table terms n)) size in
    let before = rows-below table terms n placed in
    let last = chunk-rows table terms n placed in
    omega (arith, more, chunks, before, last)

-- ---- all rows

in-range : (size : ℕ) (rows : List PlacedRow) → list_all (is_place size) rows ≡ true → AllByRecursion (λ p. (p.chunk < above_chunks) × (p.slot < size)) rows
in-range size [] all = tt
in-range size (p ∷ rows) all =
    let parts = and_parts (is_place size p) (list_all (is_place size) rows) all in
    let place = place_parts size p parts.0 in
    ((subst (λ n. p.chunk < n) (sym above-is) place.1.0, place.1.1), in-range size rows parts.1)

passing-rows : (test : Row → Bool) (rows : List PlacedRow) → length (filter test (plain_rows rows)) ≡ length (filter (λ p. test p.row) rows)
passing-rows test [] = refl
passing-rows test (p ∷ rows) =
    elim (cases_Bool (test p.row)) [
      | inl passes ↦ rw passes (ap suc (passing-rows test rows))
      | inr fails ↦ rw fails (passing-rows test rows)
    ]

-- the rows whose partition values meet the terms fit into the wanted chunks
rows-in_chunks : (table : PlacedTable) (terms : List Constraint) → IsPlaced table →
    length (filter (meets_partition table.schema.columns terms) (plain_rows table.rows)) ≤ length (wanted_chunks table terms) * table.schema.chunk_size
rows-in_chunks table terms placed =
    let test = meets_all_on_partition table terms in
    let size = table.schema.chunk_size in
    let passed = filter test table.rows in
    let shuffled = length-shuffle (map (λ p. p) passed) (gathered test (λ p. p) table.rows size above_chunks)
    (gathered-shuffle test (λ p. p) table.rows size above_chunks (are_free table.rows placed.apart) (in-range size table.rows placed.places)) in
    let plainly = passing-rows (meets_partition table.schema.columns terms) table.rows in
    let same = length-map passed (λ p. p) in
    let most = rows-below table terms above_chunks placed in
    omega (arith, shuffled, plainly, same, most)

-- a quotient that is rounded up is at most what the number is a multiple of, at most
rounded-up : (rows size chunks : ℕ) → 1 ≤ size → rows ≤ chunks * size → chunks_for rows size ≤ chunks
rounded-up rows size chunks some most =
    let enough : (rows + (size - 1)) < (chunks + 1) * size = (let next = add-mul chunks 1 size in omega (arith, next, most, some)) in
    let less : (rows + (size - 1)) / size < chunks + 1 = (div-lt_iff_lt-mul some).1 enough in
    omega (arith, less)

fewer-pieces : (before workers least chunks last after : ℕ) → least ≤ chunks → min (before + min workers chunks) last ≤ after → min (before + min workers least) last ≤ after
fewer-pieces before workers least chunks last after fewer pieces = omega (arith, fewer, pieces)

pub counts-rows : (table : PlacedTable) (select : Select) (workers : ℕ) (before after : Steps) → IsPlaced table → CountsSearch table select workers before after → CountsRows (plain table) select workers before after
counts-rows table select workers before after placed counts = record {
  reads = counts.reads;
  pieces = fewer-pieces before.pieces workers (chunks_for (length (filter (meets_partition table.schema.columns select.where_terms) (plain_rows table.rows))) table.schema.chunk_size)
      (length (wanted_chunks table select.where_terms)) LAST_COUNT after.pieces
      (rounded-up (length (filter (meets_partition table.schema.columns select.where_terms) (plain_rows table.rows))) table.schema.chunk_size (length (wanted_chunks table select.where_terms))
      (let size = (chunk-size table.schema placed.valid.schema).least in omega (arith, size)) (rows-in_chunks table select.where_terms placed)) counts.pieces;
}

-- of the table that a session sees
pub counts-seen : (machine : Machine) (at : ℕ) (select : Select) (workers number : ℕ) (version : VersionState) (before after : Steps) → IsSeen machine at select.table number version → IsPlaced version.table →
    CountsSearch version.table select workers before after → (named : Named) → found_table select.table (state_of machine) (session_at machine at) ≡ Some named → CountsRows named.table select workers before after
counts-seen machine at select workers number version before after seen placed counts named is =
    let same : named.table ≡ plain version.table = ap (λ (n : Named). n.table) (some-is named seen.named (sym is ∙ seen.is)) ∙ seen.same in
    subst (λ (t : Table). CountsRows t select workers before after) (sym same) (counts-rows version.table select workers before after placed counts)
