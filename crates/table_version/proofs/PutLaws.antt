-- What a store asks of a row that is put, where nothing refuses it.
use Rattle.std.proofs.Common.{◌≡◌, ℕ, ℤ, ◌+◌, ◌-◌, ◌<◌, ◌^◌, true, false, List, [], ◌∷◌, ◌++◌, ◌∙◌, refl, sym, ap, ap₂, subst, arith, map, length, Option, Some, None}
use Rattle.std.specs.Prelude.{is_some, sum_by, FitsSigned}
use Rattle.std.specs.Int.{w64}
use Rattle.std.specs.Option.{option_map, option_or}
use Rattle.std.proofs.lemmas.Bool.{leb-true}
use Rattle.vec_base.specs.declared.limits.TheConstants.{MOST_ROWS}
use Rattle.vec_base.specs.declared.refusal.Refusal.{Refusal}
use Rattle.vec_base.specs.declared.value.Value.{Value}
use Rattle.chunk_slots.specs.Slots.{vectors_of}
use Rattle.row_model.specs.Change.{assigned, keyed, larger, spent, taken_id, taken_rowid}
use Rattle.row_model.specs.Limits.{over_rows}
use Rattle.row_model.specs.RefusalOrder.{first}
use Rattle.row_model.specs.RepresentableStatements.{AreRepresentable}
use Rattle.row_model.specs.Values.{side_bytes}
use Rattle.row_model.specs.declared.schema.Column.{Column}
use Rattle.row_model.specs.declared.schema.Kind.{Kind}
use Rattle.row_model.specs.declared.schema.Schema.{Schema}
use Rattle.row_model.proofs.SchemaLaws.{faultless}
use Rattle.row_store.specs.StoredRows.{StoredRow, rowid_of, row_of as stored_of, row_with_id as stored_with_id}
use Rattle.row_store.specs.Touches.{StoreState, IsPut, HasSameShape, KeepsOrigin as KeepsStored}
use Rattle.row_chunks.specs.Cells.{are_cell_values, cells_of}
use Rattle.shadow_records.specs.PlacedTables.{partition_of, plain, plain_rows}
use Rattle.table_version.specs.Inserting.{are_fitting, insert_refusals, new_row, IsInserted}
use Rattle.table_version.specs.Kept.{id_in}
use Rattle.table_version.specs.Versions.{VersionState, KeepsOrigin}
use Rattle.table_version.specs.inner.Refusing.{given_taken, taken_text, twice}
use Rattle.table_version.specs.inner.StoredTables.{placed_rows, table_from, version_of, IsSound}
use Rattle.table_version.proofs.ByteLaws.{row-bytes}
use Rattle.table_version.proofs.GivenLaws.{keyed-well}
use Rattle.table_version.proofs.InsertLaws.{has_rowid-stored, not-refused, taken_id-stored, taken_rowid-stored}
use Rattle.table_version.proofs.OriginLaws.{keeps-origin}
use Rattle.table_version.proofs.SoundLaws.{IsGiven, inserted, sides_fit, sound-put}
use Rattle.table_version.proofs.ValidityLaws.{assigned-fresh}
use Rattle.table_version.proofs.WeavingLaws.{cells-fit, widths-fit}

-- ---- refusals

first_both : (xs ys : List Refusal) → first (xs ++ ys) ≡ option_or (first xs) (first ys)
first_both [] ys = refl
first_both (x ∷ xs) ys = refl

same_length : (columns : List Column) (rows : List StoredRow) → length (plain_rows (placed_rows columns rows)) ≡ length rows
same_length columns [] = refl
same_length columns (x ∷ xs) = let rest = same_length columns xs in omega (arith, rest)

id_refused : (name : List ℕ) (schema : Schema) (top : ℤ) (store : StoreState) (sides : ℕ) (rowid : ℤ) (values : List Value) → IsSound name schema top store sides → are_fitting schema.columns values ≡ true →
    taken_id schema.columns (plain_rows (placed_rows schema.columns store.rows)) (keyed schema.columns rowid values) ≡ taken_text (id_in schema.columns values) store.rows
id_refused name schema top store sides rowid values sound fits =
    let columns = schema.columns in
    let well = keyed-well columns rowid values fits in
    let few = (faultless schema sound.placed.valid.schema.rules).keys in
    taken_id-stored columns rowid (keyed columns rowid values) store.rows few well.valid sound.placed.valid.values sound.again
    ∙ ap (λ (id : Option (List ℕ)). taken_text id store.rows) well.id

-- the first refusal, found step by step
pub first_refusal : (name : List ℕ) (schema : Schema) (top : ℤ) (store : StoreState) (sides : ℕ) (rowid : Option ℤ) (values : List Value) → IsSound name schema top store sides →
    are_fitting schema.columns values ≡ true →
    first (insert_refusals (plain (table_from name schema top store.rows)) rowid values)
    ≡ option_or (option_or (option_or (first (given_taken rowid store.rows)) (first (taken_text (id_in schema.columns values) store.rows))) (first (spent top rowid))) (first (over_rows (length store.rows + 1)))
first_refusal name schema top store sides rowid values sound fits =
    let columns = schema.columns in
    let rows = plain_rows (placed_rows columns store.rows) in
    let a = taken_rowid rows rowid in
    let b = taken_id columns rows (keyed columns (assigned top rowid) values) in
    let s = spent top rowid in
    let d = over_rows (length rows + 1) in
    first_both (a ++ b ++ s) d
    ∙ ap₂ (λ (x y : Option Refusal). option_or x y)
    (first_both (a ++ b) s ∙ ap (λ (x : Option Refusal). option_or x (first s)) (first_both a b
    ∙ ap₂ (λ (x y : Option Refusal). option_or x y) (ap first (taken_rowid-stored columns rowid store.rows)) (ap first (id_refused name schema top store sides (assigned top rowid) values sound fits))))
    (ap (λ (n : ℕ). first (over_rows (n + 1))) (same_length columns store.rows))

pub rows_few : (name : List ℕ) (schema : Schema) (top : ℤ) (store : StoreState) (sides : ℕ) → IsSound name schema top store sides → length store.rows + 1 < 2 ^ 64
rows_few name schema top store sides sound =
    let few = leb-true (length (plain_rows (placed_rows schema.columns store.rows))) MOST_ROWS sound.placed.valid.few in
    let same = same_length schema.columns store.rows in
    omega (arith, few, same)

none_first : (xs : List Refusal) → first xs ≡ None → xs ≡ []
none_first [] h = refl
none_first (x ∷ xs) h = absurd cc

pub none_refused : (xs : List Refusal) (o : Option Refusal) → o ≡ first xs → o ≡ None → xs ≡ []
none_refused xs o is none = none_first xs (sym is ∙ none)

-- ---- what a put asks for

no_some : {A : Type 0} (o : Option A) → is_some o ≡ false → o ≡ None
no_some None h = refl
no_some (Some x) h = absurd cc

no_twice : (o : Option StoredRow) → twice (option_map rowid_of o) ≡ [] → o ≡ None
no_twice None h = refl
no_twice (Some s) h = absurd cc

pub put_fresh : (name : List ℕ) (schema : Schema) (top : ℤ) (store : StoreState) (sides : ℕ) (rowid : Option ℤ) (values : List Value) → IsGiven name schema top store sides rowid values →
    stored_of (assigned top rowid) store.rows ≡ None
put_fresh name schema top store sides rowid values given =
    let columns = schema.columns in
    let welcome = not-refused (plain (table_from name schema top store.rows)) rowid values given.none in
    no_some (stored_of (assigned top rowid) store.rows) (sym (has_rowid-stored columns (assigned top rowid) store.rows)
    ∙ assigned-fresh top (plain_rows (placed_rows columns store.rows)) rowid given.sound.placed.valid.topped welcome.free welcome.left)

pub put_own : (name : List ℕ) (schema : Schema) (top : ℤ) (store : StoreState) (sides : ℕ) (rowid : Option ℤ) (values : List Value) (text : List ℕ) → IsGiven name schema top store sides rowid values →
    id_in schema.columns values ≡ Some text → stored_with_id text store.rows ≡ None
put_own name schema top store sides rowid values text given is =
    let welcome = not-refused (plain (table_from name schema top store.rows)) rowid values given.none in
    let refused = id_refused name schema top store sides (assigned top rowid) values given.sound given.fits in
    let alone : taken_text (id_in schema.columns values) store.rows ≡ [] = sym refused ∙ welcome.alone in
    no_twice (stored_with_id text store.rows) (ap (λ (id : Option (List ℕ)). taken_text id store.rows) (sym is) ∙ alone)

pub put_widths : (name : List ℕ) (schema : Schema) (top : ℤ) (store : StoreState) (sides : ℕ) (values : List Value) → IsSound name schema top store sides → are_fitting schema.columns values ≡ true →
    map length (vectors_of values) ≡ store.widths
put_widths name schema top store sides values sound fits =
    let columns = schema.columns in
    let well = keyed-well columns top values fits in
    ap (λ (vs : List (List ℕ)). map length vs) (sym well.vectors)
    ∙ widths-fit columns top (keyed columns top values) well.valid
    ∙ sym sound.widths

pub put_cells : (name : List ℕ) (schema : Schema) (top : ℤ) (store : StoreState) (sides : ℕ) (values : List Value) → IsSound name schema top store sides → are_fitting schema.columns values ≡ true →
    are_cell_values store.kinds (cells_of schema.columns values) ≡ true
put_cells name schema top store sides values sound fits =
    let columns = schema.columns in
    let well = keyed-well columns top values fits in
    ap₂ (λ (ks : List Kind) (cs : List Value). are_cell_values ks cs) sound.kinds (sym well.cells) ∙ cells-fit columns top (keyed columns top values) well.valid

pub put_few : (name : List ℕ) (schema : Schema) (top : ℤ) (store : StoreState) (sides : ℕ) → IsSound name schema top store sides → length store.rows < 2 ^ 64 - 1
put_few name schema top store sides sound = let few = rows_few name schema top store sides sound in omega (arith, few)

-- the bytes of texts stay within 64 bits
pub put_sides : (name : List ℕ) (schema : Schema) (top : ℤ) (old new : StoreState) (sides : ℕ) (rowid : Option ℤ) (values : List Value) →
    IsGiven name schema top old sides rowid values → IsPut old new (assigned top rowid) (id_in schema.columns values) (partition_of schema.columns values) (vectors_of values) (cells_of schema.columns values) → HasSameShape old new →
    sides + sum_by side_bytes values < 2 ^ 64
put_sides name schema top old new sides rowid values given put shape =
    sides_fit name schema (larger top (assigned top rowid)) new (sides + sum_by side_bytes values) (sound-put name schema top old new sides rowid values given put shape)

-- the bytes of the texts of values that fit
pub values_short : (name : List ℕ) (schema : Schema) (top : ℤ) (store : StoreState) (sides : ℕ) (values : List Value) → IsSound name schema top store sides → are_fitting schema.columns values ≡ true →
    sum_by side_bytes values < 2 ^ 64
values_short name schema top store sides values sound fits =
    let well = keyed-well schema.columns top values fits in
    let few = (row-bytes schema (record { rowid = top; values = keyed schema.columns top values }) sound.placed.valid.schema well.valid).1 in
    let same = well.sides in
    omega (arith, few, same)

-- ---- a call that puts a row

-- values that are put with a rowid that was made for them
pub record IsMade (name : List ℕ) (schema : Schema) (top : ℤ) (store : StoreState) (sides : ℕ) (made : ℤ) (rowid : Option ℤ) (values : List Value) : Type 0 where
  pub given : IsGiven name schema top store sides rowid values
  pub is : made ≡ assigned top rowid

pub made_of : (v : VersionState) (name : List ℕ) (schema : Schema) (top : ℤ) (store : StoreState) (sides : ℕ) (made : ℤ) (rowid : Option ℤ) (values : List Value) → version_of name schema top store ≡ v →
    IsSound name schema top store sides → made ≡ assigned v.table.top rowid → are_fitting v.table.schema.columns values ≡ true → insert_refusals (plain v.table) rowid values ≡ [] →
    AreRepresentable values → FitsSigned w64 made → IsMade name schema top store sides made rowid values
made_of v name schema top store sides made rowid values view sound is fits none held number =
    let is_now = subst (λ (w : VersionState). made ≡ assigned w.table.top rowid) (sym view) is in
    record {
      given = record {
        sound = sound;
        fits = subst (λ (w : VersionState). are_fitting w.table.schema.columns values ≡ true) (sym view) fits;
        representable = held;
        number = subst (λ (n : ℤ). FitsSigned w64 n) is_now number;
        none = subst (λ (w : VersionState). insert_refusals (plain w.table) rowid values ≡ []) (sym view) none;
      };
      is = is_now;
    }

-- what the store tells of the put
pub record IsDone (schema : Schema) (old new : StoreState) (made : ℤ) (values : List Value) : Type 0 where
  pub put : IsPut old new made (id_in schema.columns values) (partition_of schema.columns values) (vectors_of values) (cells_of schema.columns values)
  pub shape : HasSameShape old new

pub made_sound : (name : List ℕ) (schema : Schema) (top : ℤ) (old new : StoreState) (sides : ℕ) (made : ℤ) (rowid : Option ℤ) (values : List Value) → IsMade name schema top old sides made rowid values →
    IsDone schema old new made values → IsSound name schema (larger top made) new (sides + sum_by side_bytes values)
made_sound name schema top old new sides made rowid values m done =
    let put = subst (λ (n : ℤ). IsPut old new n (id_in schema.columns values) (partition_of schema.columns values) (vectors_of values) (cells_of schema.columns values)) m.is done.put in
    subst (λ (n : ℤ). IsSound name schema (larger top n) new (sides + sum_by side_bytes values)) (sym m.is) (sound-put name schema top old new sides rowid values m.given put done.shape)

pub made_inserted : (v : VersionState) (name : List ℕ) (schema : Schema) (top : ℤ) (old new : StoreState) (sides : ℕ) (made after : ℤ) (rowid : Option ℤ) (values : List Value) → version_of name schema top old ≡ v →
    IsMade name schema top old sides made rowid values → IsDone schema old new made values → after ≡ larger top made →
    IsInserted v.table (table_from name schema after new.rows) (new_row (plain v.table) rowid values)
made_inserted v name schema top old new sides made after rowid values view m done is =
    let put = subst (λ (n : ℤ). IsPut old new n (id_in schema.columns values) (partition_of schema.columns values) (vectors_of values) (cells_of schema.columns values)) m.is done.put in
    let after_is : after ≡ larger top (assigned top rowid) = is ∙ ap (λ (n : ℤ). larger top n) m.is in
    subst (λ (w : VersionState). IsInserted w.table (table_from name schema after new.rows) (new_row (plain w.table) rowid values)) view
    (subst (λ (t : ℤ). IsInserted (table_from name schema top old.rows) (table_from name schema t new.rows) (new_row (plain (table_from name schema top old.rows)) rowid values)) (sym after_is)
    (inserted name schema top old new sides rowid values m.given put))

pub made_origin : (v : VersionState) (name : List ℕ) (schema : Schema) (top after : ℤ) (old new : StoreState) (sides : ℕ) → version_of name schema top old ≡ v → IsSound name schema top old sides → KeepsStored old new →
    KeepsOrigin v (version_of name schema after new)
made_origin v name schema top after old new sides view sound keeps =
    subst (λ (w : VersionState). KeepsOrigin w (version_of name schema after new)) view (keeps-origin name schema top after old new sound.again keeps)
