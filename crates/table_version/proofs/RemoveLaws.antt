-- A row less: the bytes of its texts, and what stays.
use Rattle.std.proofs.Common.{◌≡◌, ℕ, ℤ, ◌+◌, ◌-◌, ◌<◌, ◌≤◌, ◌^◌, false, List, ◌∙◌, refl, sym, ap, subst, arith, Option, Some, None}
use Rattle.std.specs.Prelude.{find, is_some, sum_by}
use Rattle.std.specs.Option.{option_map}
use Rattle.std.specs.Ordering.{int_eq}
use Rattle.row_model.specs.Change.{rows_side_bytes}
use Rattle.row_model.specs.Values.{row_side_bytes, side_bytes}
use Rattle.row_model.specs.declared.row.Row.{Row}
use Rattle.row_model.specs.declared.schema.Column.{Column}
use Rattle.row_model.specs.declared.schema.Schema.{Schema}
use Rattle.row_model.proofs.SchemaLaws.{faultless}
use Rattle.row_store.specs.StoredRows.{StoredRow, row_of as stored_of, without as without_stored}
use Rattle.row_store.specs.Touches.{StoreState, HasSameShape}
use Rattle.shadow_records.specs.PlacedTables.{PlacedRow, plain, plain_rows, row_of}
use Rattle.table_version.specs.PlacedRows.{table_without}
use Rattle.table_version.specs.Versions.{VersionState}
use Rattle.table_version.specs.inner.StoredTables.{placed, placed_rows, table_from, version_of, GivesAgain, IsSound}
use Rattle.table_version.specs.inner.StoredBytes.{id_side, stored_bytes, bytes_at}
use Rattle.table_version.proofs.ByteLaws.{side_bytes-without, without, without-none}
use Rattle.table_version.proofs.InsertLaws.{has_rowid-stored}
use Rattle.table_version.proofs.KeptBytes.{id_bytes, side_bytes-kept}
use Rattle.table_version.proofs.PlacedLaws.{plain-without}
use Rattle.table_version.proofs.SoundLaws.{sides_fit, sound-without, removed}
use Rattle.table_version.proofs.StoredLaws.{find-map, found-one, placed-of, placed-without}
use Rattle.table_version.proofs.ValidityLaws.{found-valid}

same_id_bytes : (id : Option (List ℕ)) → id_bytes id ≡ id_side id
same_id_bytes None = refl
same_id_bytes (Some text) = refl

plain_found : (columns : List Column) (rows : List StoredRow) (i : ℤ) (s : StoredRow) → stored_of i rows ≡ Some s → find (λ r. int_eq r.rowid i) (plain_rows (placed_rows columns rows)) ≡ Some (placed columns s).row
plain_found columns rows i s found =
    find-map (λ (p : PlacedRow). p.row) (λ (r : Row). int_eq r.rowid i) (placed_rows columns rows)
    ∙ ap (λ (o : Option PlacedRow). option_map (λ (p : PlacedRow). p.row) o) (find-map (placed columns) (λ (p : PlacedRow). int_eq p.row.rowid i) rows ∙ ap (λ (o : Option StoredRow). option_map (placed columns) o) found)

-- the bytes of a row's texts are those that are stored
row_bytes : (name : List ℕ) (schema : Schema) (top : ℤ) (store : StoreState) (sides : ℕ) (i : ℤ) (s : StoredRow) → IsSound name schema top store sides → stored_of i store.rows ≡ Some s →
    row_side_bytes (placed schema.columns s).row ≡ stored_bytes s
row_bytes name schema top store sides i s sound found =
    let columns = schema.columns in
    let again = (found-one (GivesAgain columns) (λ x. int_eq x.rowid i) store.rows s sound.again found).0 in
    let valid = found-valid (plain (table_from name schema top store.rows)) i (placed columns s).row sound.placed.valid (plain_found columns store.rows i s found) in
    let few = (faultless schema sound.placed.valid.schema.rules).keys in
    side_bytes-kept columns (placed columns s).row.rowid (placed columns s).row.values few valid.valid
    ∙ ap (λ (r : StoredRow). id_bytes r.id + sum_by side_bytes r.partition + sum_by side_bytes r.cells) again
    ∙ ap (λ (n : ℕ). n + sum_by side_bytes s.partition + sum_by side_bytes s.cells) (same_id_bytes s.id)

none_some : {A : Type 0} (o : Option A) → o ≡ None → is_some o ≡ false
none_some o is = ap is_some is

bytes_left : (name : List ℕ) (schema : Schema) (top : ℤ) (store : StoreState) (sides : ℕ) (i : ℤ) → IsSound name schema top store sides →
    bytes_at (stored_of i store.rows) + rows_side_bytes (without i (plain_rows (placed_rows schema.columns store.rows))) ≡ sides
bytes_left name schema top store sides i sound = by_found (stored_of i store.rows) refl where
  by_found : (o : Option StoredRow) → stored_of i store.rows ≡ o → bytes_at o + rows_side_bytes (without i (plain_rows (placed_rows schema.columns store.rows))) ≡ sides
  by_found None e =
      let same : rows_side_bytes (without i (plain_rows (placed_rows schema.columns store.rows))) ≡ sides = ap rows_side_bytes (without-none i (plain_rows (placed_rows schema.columns store.rows)) (has_rowid-stored schema.columns i store.rows ∙ none_some (stored_of i store.rows) e)) ∙ sym sound.sides in
      omega (arith, same)
  by_found (Some s) e =
      let whole = side_bytes-without i (plain_rows (placed_rows schema.columns store.rows)) (placed schema.columns s).row sound.placed.valid.rising (plain_found schema.columns store.rows i s e) in
      let one = row_bytes name schema top store sides i s sound e in
      ap (λ (n : ℕ). n + rows_side_bytes (without i (plain_rows (placed_rows schema.columns store.rows)))) (sym one) ∙ whole ∙ sym sound.sides

pub bytes_among : (name : List ℕ) (schema : Schema) (top : ℤ) (store : StoreState) (sides : ℕ) (i : ℤ) → IsSound name schema top store sides → bytes_at (stored_of i store.rows) ≤ sides
bytes_among name schema top store sides i sound = let left = bytes_left name schema top store sides i sound in omega (arith, left)

pub bytes_small : (name : List ℕ) (schema : Schema) (top : ℤ) (store : StoreState) (sides : ℕ) (i : ℤ) → IsSound name schema top store sides → bytes_at (stored_of i store.rows) < 2 ^ 64
bytes_small name schema top store sides i sound =
    let among = bytes_among name schema top store sides i sound in
    let fits = sides_fit name schema top store sides sound in
    omega (arith, among, fits)

pub less_sound : (name : List ℕ) (schema : Schema) (top : ℤ) (old new : StoreState) (sides : ℕ) (i : ℤ) → IsSound name schema top old sides → new.rows ≡ without_stored i old.rows → HasSameShape old new →
    IsSound name schema top new (sides - bytes_at (stored_of i old.rows))
less_sound name schema top old new sides i sound is shape =
    let columns = schema.columns in
    let left = bytes_left name schema top old sides i sound in
    let rest : rows_side_bytes (plain_rows (placed_rows columns new.rows)) ≡ rows_side_bytes (without i (plain_rows (placed_rows columns old.rows))) =
    ap (λ (rs : List StoredRow). rows_side_bytes (plain_rows (placed_rows columns rs))) is ∙ ap (λ (ps : List PlacedRow). rows_side_bytes (plain_rows ps)) (placed-without columns i old.rows)
    ∙ ap rows_side_bytes (plain-without i (placed_rows columns old.rows)) in
    sound-without name schema top i old new sides (sides - bytes_at (stored_of i old.rows)) sound is shape (omega (arith, left, rest))

pub less_table : (v : VersionState) (name : List ℕ) (schema : Schema) (top : ℤ) (old new : StoreState) (i : ℤ) → version_of name schema top old ≡ v → new.rows ≡ without_stored i old.rows →
    table_from name schema top new.rows ≡ table_without v.table i
less_table v name schema top old new i view is =
    subst (λ (w : VersionState). table_from name schema top new.rows ≡ table_without w.table i) view (removed name schema top i old new is)

pub was_some : (v : VersionState) (name : List ℕ) (schema : Schema) (top : ℤ) (store : StoreState) (i : ℤ) → version_of name schema top store ≡ v → is_some (stored_of i store.rows) ≡ is_some (row_of v.table.rows i)
was_some v name schema top store i view =
    subst (λ (w : VersionState). is_some (stored_of i store.rows) ≡ is_some (row_of w.table.rows i)) view (same_some (stored_of i store.rows) ∙ ap is_some (sym (placed-of schema.columns store.rows i)))
  where
    same_some : (o : Option StoredRow) → is_some o ≡ is_some (option_map (placed schema.columns) o)
    same_some None = refl
    same_some (Some s) = refl
