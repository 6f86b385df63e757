-- A sound store stays one: with no rows, with one row more, and with one row less.
use Rattle.std.proofs.Common.{◌≡◌, ℕ, ℤ, pos, ◌+◌, ◌<◌, ◌≤◌, ◌^◌, true, false, List, [], ◌∷◌, ◌∙◌, refl, sym, ap, ap₂, subst, arith, length, Option}
use Rattle.std.specs.Prelude.{◌==◌, find, int_le, sum_by, nat_lt, FitsSigned}
use Rattle.std.specs.Int.{w64}
use Rattle.std.specs.List.{All, AllByRecursion}
use Rattle.std.specs.Option.{option_map}
use Rattle.std.proofs.lemmas.Int.{ints}
use Rattle.vec_base.specs.declared.limits.TheConstants.{LAST_ROWID, MOST_DIMENSIONS}
use Rattle.vec_base.specs.Words.{is_name}
use Rattle.vec_base.specs.declared.value.Value.{Value}
use Rattle.chunk_slots.specs.Slots.{vectors_of}
use Rattle.row_model.specs.Change.{assigned, keyed, larger, rows_side_bytes, same_id}
use Rattle.row_model.specs.RepresentableStatements.{AreRepresentable}
use Rattle.row_model.specs.Schemas.{count_of, is_key, IsValidSchema}
use Rattle.row_model.specs.Values.{row_side_bytes, side_bytes}
use Rattle.row_model.specs.declared.row.Row.{Row}
use Rattle.row_model.specs.declared.schema.Column.{Column}
use Rattle.row_model.specs.declared.schema.Schema.{Schema}
use Rattle.row_model.proofs.SchemaLaws.{faultless}
use Rattle.row_store.specs.StoredRows.{StoredRow, PlacesAre, lies_at, without}
use Rattle.row_store.specs.Touches.{StoreState, IsChunkShape, IsPut, HasSameShape}
use Rattle.slot_alloc.specs.Places.{PlaceMap}
use Rattle.slot_alloc.specs.SlotRule.{IsPlaceFor, chunk_of, slot_of}
use Rattle.slot_alloc.specs.declared.place.Place.{Place}
use Rattle.shadow_records.specs.PlacedTables.{PlacedRow, PlacedTable, IsPlaced, partition_of, plain, plain_rows}
use Rattle.table_version.specs.Inserting.{are_fitting, insert_refusals, new_row, partition_in, ArePlacesOf, IsInserted}
use Rattle.table_version.specs.Kept.{id_in, widths_of}
use Rattle.table_version.specs.PlacedRows.{with_placed, table_with, table_without}
use Rattle.row_chunks.specs.Cells.{cells_of, kinds_of}
use Rattle.table_version.specs.inner.StoredTables.{kept_of, placed_rows, stored, table_from, GivesAgain, IsSound}
use Rattle.table_version.specs.inner.Weaving.{KeptValues, woven}
use Rattle.table_version.proofs.ByteLaws.{side_bytes-fit, side_bytes-with}
use Rattle.table_version.proofs.GivenLaws.{AreKeyedWell, keyed-well, keyed-representable}
use Rattle.table_version.proofs.InsertLaws.{none_twice, not-refused}
use Rattle.table_version.proofs.PlacedLaws.{IsPlacedNew, plain-with, placed-with as table-with, placed-without as table-less}
use Rattle.table_version.proofs.RoomLaws.{HasPlace, new_place, new_apart, new_alike}
use Rattle.table_version.proofs.SchemaShape.{chunk-size}
use Rattle.table_version.proofs.StoredLaws.{all-with, all-without, placed-at, placed-first, placed-with, placed-without, same_partition}
use Rattle.table_version.proofs.ValidityLaws.{assigned-fresh}
use Rattle.table_version.proofs.WeavingLaws.{short-widths, woven-back}

-- ---- places

-- the places of stored rows are those of the table
pub places-are : (name : List ℕ) (schema : Schema) (top : ℤ) (store : StoreState) (sides : ℕ) (places : PlaceMap) → IsSound name schema top store sides → PlacesAre store.size store.rows places →
    ArePlacesOf (table_from name schema top store.rows) places
places-are name schema top store sides places sound are =
    let columns = schema.columns in
    record {
      size = are.size ∙ sound.size;
      used = λ c s. are.used c s ∙ same_partition columns (lies_at c s) store.rows sound.again ∙ ap (λ o. option_map (partition_in columns) o) (sym (placed-at columns store.rows c s));
      chunks = λ c. are.chunks c ∙ same_partition columns (λ row. c == row.chunk) store.rows sound.again ∙ ap (λ o. option_map (partition_in columns) o) (sym (placed-first columns store.rows c));
    }

-- ---- one row more

-- the row that values make is stored
pub record IsStoredNew (columns : List Column) (rowid : ℤ) (values : List Value) (s : StoredRow) : Type 0 where
  pub rowid_is : s.rowid ≡ rowid
  pub id : s.id ≡ id_in columns values
  pub partition : s.partition ≡ partition_of columns values
  pub vectors : s.vectors ≡ vectors_of values
  pub cells : s.cells ≡ cells_of columns values

few_keys : (schema : Schema) → IsValidSchema schema → nat_lt 1 (count_of is_key schema.columns) ≡ false
few_keys schema valid = (faultless schema valid.rules).keys

abbrev row_at_place : ℤ → ℕ → ℕ → List Value → PlacedRow
row_at_place rowid chunk slot values = record { row = record { rowid = rowid; values = values }; chunk = chunk; slot = slot }

abbrev stored_row : ℤ → ℕ → ℕ → Option (List ℕ) → KeptValues → StoredRow
stored_row rowid chunk slot id kept = record { rowid = rowid; chunk = chunk; slot = slot; id = id; partition = kept.partition; vectors = kept.vectors; cells = kept.cells }

-- what is kept of the values is kept of them with the rowid in the key's place
same_kept : (columns : List Column) (rowid : ℤ) (values : List Value) → AreKeyedWell columns rowid values → kept_of columns (keyed columns rowid values) ≡ kept_of columns values
same_kept columns rowid values well =
    ap₂ (λ (p c : List Value). kept_with p (vectors_of (keyed columns rowid values)) c) well.partition well.cells
    ∙ ap (λ (v : List (List ℕ)). kept_with (partition_of columns values) v (cells_of columns values)) well.vectors
  where
    kept_with : List Value → List (List ℕ) → List Value → KeptValues
    kept_with p v c = record { partition = p; vectors = v; cells = c }

weave : (schema : Schema) (rowid : ℤ) (values : List Value) → IsValidSchema schema → AreKeyedWell schema.columns rowid values →
    woven schema.columns rowid (id_in schema.columns values) (kept_of schema.columns values) ≡ keyed schema.columns rowid values
weave schema rowid values valid well =
    let columns = schema.columns in
    let back = woven-back columns rowid (keyed columns rowid values) (few_keys schema valid) well.valid in
    ap₂ (λ (id : Option (List ℕ)) (kept : KeptValues). woven columns rowid id kept) (sym well.id) (sym (same_kept columns rowid values well)) ∙ back

again_new : (schema : Schema) (rowid : ℤ) (values : List Value) (chunk slot : ℕ) → IsValidSchema schema → AreKeyedWell schema.columns rowid values →
    GivesAgain schema.columns (stored_row rowid chunk slot (id_in schema.columns values) (kept_of schema.columns values))
again_new schema rowid values chunk slot valid well =
    let columns = schema.columns in
    let keys = keyed columns rowid values in
    ap (λ (vs : List Value). stored columns (row_at_place rowid chunk slot vs)) (weave schema rowid values valid well)
    ∙ ap₂ (λ (id : Option (List ℕ)) (kept : KeptValues). stored_row rowid chunk slot id kept) well.id (same_kept columns rowid values well)

-- values that fit and are not refused, and the store that they are put into
pub record IsGiven (name : List ℕ) (schema : Schema) (top : ℤ) (store : StoreState) (sides : ℕ) (rowid : Option ℤ) (values : List Value) : Type 0 where
  pub sound : IsSound name schema top store sides
  pub fits : are_fitting schema.columns values ≡ true
  pub representable : AreRepresentable values
  pub number : FitsSigned w64 (assigned top rowid)
  pub none : insert_refusals (plain (table_from name schema top store.rows)) rowid values ≡ []

pub given_fresh : (name : List ℕ) (schema : Schema) (top : ℤ) (store : StoreState) (sides : ℕ) (rowid : Option ℤ) (values : List Value) (places : PlaceMap) (place : Place) →
    IsGiven name schema top store sides rowid values → PlacesAre store.size store.rows places → IsPlaceFor places (partition_of schema.columns values) place →
    IsPlacedNew (table_from name schema top store.rows) (row_at_place (assigned top rowid) (chunk_of place) (slot_of place) (keyed schema.columns (assigned top rowid) values))
given_fresh name schema top store sides rowid values places place given are taken =
    let table = table_from name schema top store.rows in
    let sound = given.sound in
    let valid = sound.placed.valid in
    let made = assigned top rowid in
    let well = keyed-well schema.columns made values given.fits in
    let welcome = not-refused (plain table) rowid values given.none in
    let row : Row = record { rowid = made; values = keyed schema.columns made values } in
    let longer = same_length store.rows in
    let room = welcome.few in
    let size = (chunk-size schema valid.schema).least in
    let has : HasPlace table places (partition_of schema.columns row.values) place = record {
      sound = sound.placed;
      slots = omega (arith, size);
      few = omega (arith, room, longer);
      are = places-are name schema top store sides places sound are;
      taken = subst (λ (p : List Value). IsPlaceFor places p place) (sym well.partition) taken;
    } in
    record {
      fits = well.valid;
      representable = record { rowid = given.number; values = keyed-representable schema.columns made values given.number given.representable };
      rowid = assigned-fresh top (plain_rows table.rows) rowid valid.topped welcome.free welcome.left;
      id = none_twice (find (λ r. same_id schema.columns row.values r.values) (plain_rows table.rows)) welcome.alone;
      few = omega (arith, room, longer);
      place = new_place table places (partition_of schema.columns row.values) place row has;
      apart = new_apart table places (partition_of schema.columns row.values) place row has;
      alike = new_alike table places place row has;
    }
  where
    same_length : (rows : List StoredRow) → length (plain_rows (placed_rows schema.columns rows)) ≡ length (placed_rows schema.columns rows)
    same_length [] = refl
    same_length (x ∷ xs) = let rest = same_length xs in omega (arith, rest)

-- the table after a put
table_put : (name : List ℕ) (schema : Schema) (top : ℤ) (old new : StoreState) (sides : ℕ) (rowid : Option ℤ) (values : List Value) →
    IsGiven name schema top old sides rowid values → (put : IsPut old new (assigned top rowid) (id_in schema.columns values) (partition_of schema.columns values) (vectors_of values) (cells_of schema.columns values)) →
    table_from name schema (larger top (assigned top rowid)) new.rows
    ≡ table_with (table_from name schema top old.rows) (row_at_place (assigned top rowid) (chunk_of put.place) (slot_of put.place) (keyed schema.columns (assigned top rowid) values))
table_put name schema top old new sides rowid values given put =
    let columns = schema.columns in
    let made = assigned top rowid in
    let well = keyed-well columns made values given.fits in
    let s = stored_row made (chunk_of put.place) (slot_of put.place) (id_in columns values) (kept_of columns values) in
    let rows = ap (λ (rs : List StoredRow). placed_rows columns rs) put.rows ∙ placed-with columns s old.rows
    ∙ ap (λ (vs : List Value). with_placed (row_at_place made (chunk_of put.place) (slot_of put.place) vs) (placed_rows columns old.rows))
    (weave schema made values given.sound.placed.valid.schema well) in
    ap (λ (ps : List PlacedRow). table_of name schema (larger top made) ps) rows
  where
    table_of : List ℕ → Schema → ℤ → List PlacedRow → PlacedTable
    table_of n s t ps = record { name = n; schema = s; top = t; rows = ps }

pub inserted : (name : List ℕ) (schema : Schema) (top : ℤ) (old new : StoreState) (sides : ℕ) (rowid : Option ℤ) (values : List Value) →
    IsGiven name schema top old sides rowid values → IsPut old new (assigned top rowid) (id_in schema.columns values) (partition_of schema.columns values) (vectors_of values) (cells_of schema.columns values) →
    IsInserted (table_from name schema top old.rows) (table_from name schema (larger top (assigned top rowid)) new.rows) (new_row (plain (table_from name schema top old.rows)) rowid values)
inserted name schema top old new sides rowid values given put =
    let well = keyed-well schema.columns (assigned top rowid) values given.fits in
    record {
      place = put.place;
      places = put.places;
      are = places-are name schema top old sides put.places given.sound put.are;
      taken = subst (λ (p : List Value). IsPlaceFor put.places p put.place) (sym well.partition) put.taken;
      table = table_put name schema top old new sides rowid values given put;
    }

pub sides_put : (old new : PlacedTable) (p : PlacedRow) (bytes more : ℕ) → new ≡ table_with old p → bytes ≡ rows_side_bytes (plain_rows old.rows) → row_side_bytes p.row ≡ more →
    bytes + more ≡ rows_side_bytes (plain_rows new.rows)
sides_put old new p bytes more is before one =
    let whole : rows_side_bytes (plain_rows new.rows) ≡ row_side_bytes p.row + rows_side_bytes (plain_rows old.rows) =
    ap (λ (t : PlacedTable). rows_side_bytes (plain_rows t.rows)) is ∙ ap rows_side_bytes (plain-with p old.rows) ∙ side_bytes-with p.row (plain_rows old.rows) in
    omega (arith, whole, before, one)

pub sound-put : (name : List ℕ) (schema : Schema) (top : ℤ) (old new : StoreState) (sides : ℕ) (rowid : Option ℤ) (values : List Value) →
    IsGiven name schema top old sides rowid values → IsPut old new (assigned top rowid) (id_in schema.columns values) (partition_of schema.columns values) (vectors_of values) (cells_of schema.columns values) → HasSameShape old new →
    IsSound name schema (larger top (assigned top rowid)) new (sides + sum_by side_bytes values)
sound-put name schema top old new sides rowid values given put shape =
    let made = assigned top rowid in
    let table = table_from name schema top old.rows in
    let well = keyed-well schema.columns made values given.fits in
    let p = row_at_place made (chunk_of put.place) (slot_of put.place) (keyed schema.columns made values) in
    let s = stored_row made (chunk_of put.place) (slot_of put.place) (id_in schema.columns values) (kept_of schema.columns values) in
    let is = table_put name schema top old new sides rowid values given put in
    let fresh = given_fresh name schema top old sides rowid values put.places put.place given put.are put.taken in
    record {
      placed = subst IsPlaced (sym is) (table-with table p given.sound.placed fresh);
      size = shape.size ∙ given.sound.size;
      widths = shape.widths ∙ given.sound.widths;
      kinds = shape.kinds ∙ given.sound.kinds;
      again = subst (λ (rs : List StoredRow). AllByRecursion (GivesAgain schema.columns) rs) (sym put.rows)
          (all-with (GivesAgain schema.columns) s old.rows (again_new schema made values (chunk_of put.place) (slot_of put.place) given.sound.placed.valid.schema well) given.sound.again);
      sides = sides_put table (table_from name schema (larger top made) new.rows) p sides (sum_by side_bytes values) is given.sound.sides well.sides;
    }

-- ---- no rows

pub last_fits : (n : ℤ) → FitsSigned w64 n → int_le n LAST_ROWID ≡ true
last_fits n fits = grind (arith, ints)

pub sound-empty : (name : List ℕ) (schema : Schema) (top : ℤ) (store : StoreState) → is_name name ≡ true → IsValidSchema schema → int_le (pos 0) top ≡ true → int_le top LAST_ROWID ≡ true →
    store.rows ≡ [] → store.size ≡ schema.chunk_size → store.widths ≡ widths_of schema.columns → store.kinds ≡ kinds_of schema.columns → IsSound name schema top store 0
sound-empty name schema top store named valid from_zero last none size widths kinds =
    subst (λ (rows : List StoredRow). IsSound name schema top (record store { rows = rows }) 0) (sym none) (record {
      placed = record {
        valid = record { schema = valid; values = refl; rising = refl; own_ids = refl; from_zero = from_zero; topped = refl; few = refl; representable = tt; last = last };
        name = named;
        places = refl;
        apart = λ i j d low high. absurd (omega (arith, high));
        alike = λ i j d low high. absurd (omega (arith, high));
      };
      size = size;
      widths = widths;
      kinds = kinds;
      again = tt;
      sides = refl;
    })

-- ---- one row less

table_removed : (name : List ℕ) (schema : Schema) (top i : ℤ) (old new : List StoredRow) → new ≡ without i old → table_from name schema top new ≡ table_without (table_from name schema top old) i
table_removed name schema top i old new is =
    ap (λ (ps : List PlacedRow). table_of name schema top ps) (ap (λ (rs : List StoredRow). placed_rows schema.columns rs) is ∙ placed-without schema.columns i old)
  where
    table_of : List ℕ → Schema → ℤ → List PlacedRow → PlacedTable
    table_of n s t ps = record { name = n; schema = s; top = t; rows = ps }

pub removed : (name : List ℕ) (schema : Schema) (top i : ℤ) (old new : StoreState) → new.rows ≡ without i old.rows →
    table_from name schema top new.rows ≡ table_without (table_from name schema top old.rows) i
removed name schema top i old new is = table_removed name schema top i old.rows new.rows is

-- the rows that stay have so many bytes of texts less
pub sound-without : (name : List ℕ) (schema : Schema) (top i : ℤ) (old new : StoreState) (sides less : ℕ) → IsSound name schema top old sides → new.rows ≡ without i old.rows → HasSameShape old new →
    less ≡ rows_side_bytes (plain_rows (placed_rows schema.columns new.rows)) → IsSound name schema top new less
sound-without name schema top i old new sides less sound is shape bytes =
    record {
      placed = subst IsPlaced (sym (table_removed name schema top i old.rows new.rows is)) (table-less (table_from name schema top old.rows) i sound.placed);
      size = shape.size ∙ sound.size;
      widths = shape.widths ∙ sound.widths;
      kinds = shape.kinds ∙ sound.kinds;
      again = subst (λ (rs : List StoredRow). AllByRecursion (GivesAgain schema.columns) rs) (sym is) (all-without (GivesAgain schema.columns) i old.rows sound.again);
      sides = bytes;
    }

-- the same rows
pub sound-kept : (name : List ℕ) (schema : Schema) (top : ℤ) (old new : StoreState) (sides : ℕ) → IsSound name schema top old sides → new.rows ≡ old.rows → HasSameShape old new → IsSound name schema top new sides
sound-kept name schema top old new sides sound is shape =
    record {
      placed = subst (λ (rs : List StoredRow). IsPlaced (table_from name schema top rs)) (sym is) sound.placed;
      size = shape.size ∙ sound.size;
      widths = shape.widths ∙ sound.widths;
      kinds = shape.kinds ∙ sound.kinds;
      again = subst (λ (rs : List StoredRow). AllByRecursion (GivesAgain schema.columns) rs) (sym is) sound.again;
      sides = subst (λ (rs : List StoredRow). sides ≡ rows_side_bytes (plain_rows (placed_rows schema.columns rs))) (sym is) sound.sides;
    }

-- ---- sizes

pub chunk_shape : (schema : Schema) (widths : List ℕ) → IsValidSchema schema → widths ≡ widths_of schema.columns → IsChunkShape schema.chunk_size widths
chunk_shape schema widths valid is =
    let size = chunk-size schema valid in
    record { eights = size.eights; few = size.most; short = subst (λ (ws : List ℕ). All (λ width. width ≤ MOST_DIMENSIONS) ws) (sym is) (short-widths schema valid) }

pub sides_fit : (name : List ℕ) (schema : Schema) (top : ℤ) (store : StoreState) (sides : ℕ) → IsSound name schema top store sides → sides < 2 ^ 64
sides_fit name schema top store sides sound =
    let fits = side_bytes-fit (plain (table_from name schema top store.rows)) sound.placed.valid in
    let same = sound.sides in
    omega (arith, fits, same)
