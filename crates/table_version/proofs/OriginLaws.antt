-- What follows a store follows its table: a table of the schema is stored in one way.
use Rattle.std.proofs.Common.{◌≡◌, ℕ, ℤ, Bool, true, false, List, [], ◌∷◌, ◌∙◌, refl, sym, ap, ap₂, subst, map, Option, Some, None}
use Rattle.std.specs.Prelude.{find, nat_lt}
use Rattle.std.specs.List.{list_all, AllByRecursion}
use Rattle.std.specs.Option.{option_map}
use Rattle.std.proofs.lemmas.Bool.{and_parts}
use Rattle.vec_base.specs.declared.value.Value.{Value}
use Rattle.row_model.specs.Schemas.{count_of, is_key}
use Rattle.row_model.specs.Valid.{is_valid_row}
use Rattle.row_model.specs.declared.schema.Column.{Column}
use Rattle.row_model.specs.declared.schema.Schema.{Schema}
use Rattle.row_model.proofs.SchemaLaws.{faultless}
use Rattle.row_store.specs.StoredRows.{StoredRow, row_of as stored_of, row_at as stored_at}
use Rattle.row_store.specs.Touches.{StoreState, Follows as FollowsStored, KeepsOrigin as KeepsStored}
use Rattle.shadow_records.specs.PlacedTables.{PlacedRow, PlacedTable, IsPlaced, plain_rows, row_at, row_of}
use Rattle.table_version.specs.Versions.{Follows, KeepsOrigin}
use Rattle.table_version.specs.inner.StoredTables.{placed, placed_rows, stored, table_from, version_of, GivesAgain}
use Rattle.table_version.proofs.StoredLaws.{found-one, placed-of, placed-at}
use Rattle.table_version.proofs.WeavingLaws.{woven-back}

-- ---- a valid row is stored and placed again

pub again_placed : (columns : List Column) (p : PlacedRow) → nat_lt 1 (count_of is_key columns) ≡ false →
    is_valid_row columns p.row ≡ true → placed columns (stored columns p) ≡ p
again_placed columns p few valid =
    ap (λ (vs : List Value). with_values vs) (woven-back columns p.row.rowid p.row.values few valid)
  where
    with_values : List Value → PlacedRow
    with_values vs = record { row = record { rowid = p.row.rowid; values = vs }; chunk = p.chunk; slot = p.slot }

all_again : (columns : List Column) (ps : List PlacedRow) → nat_lt 1 (count_of is_key columns) ≡ false →
    list_all (is_valid_row columns) (plain_rows ps) ≡ true → placed_rows columns (map (stored columns) ps) ≡ ps
all_again columns [] few valid = refl
all_again columns (p ∷ ps) few valid =
    let parts = and_parts (is_valid_row columns p.row) (list_all (is_valid_row columns) (plain_rows ps)) valid in
    ap₂ (λ (q : PlacedRow) (qs : List PlacedRow). q ∷ qs) (again_placed columns p few parts.0) (all_again columns ps few parts.1)

stored_again : (columns : List Column) (rows : List StoredRow) → AllByRecursion (GivesAgain columns) rows → map (stored columns) (placed_rows columns rows) ≡ rows
stored_again columns [] again = refl
stored_again columns (s ∷ ss) again = ap₂ (λ (r : StoredRow) (rs : List StoredRow). r ∷ rs) again.0 (stored_again columns ss again.1)

-- ---- what is found of the ones and of the others

both_back : {A B : Type 0} (f : B → A) (g : A → B) (o p : Option A) → option_map (λ x. f (g x)) o ≡ o → option_map (λ x. f (g x)) p ≡ p → option_map g o ≡ option_map g p → o ≡ p
both_back f g o p left right same = sym left ∙ sym (twice f g o) ∙ ap (λ q. option_map f q) same ∙ twice f g p ∙ right
  where
    twice : {A B : Type 0} (f : B → A) (g : A → B) (o : Option A) → option_map f (option_map g o) ≡ option_map (λ x. f (g x)) o
    twice f g None = refl
    twice f g (Some x) = refl

found_again : (columns : List Column) (test : StoredRow → Bool) (rows : List StoredRow) → AllByRecursion (GivesAgain columns) rows →
    option_map (λ s. stored columns (placed columns s)) (find test rows) ≡ find test rows
found_again columns test rows again = by_found (find test rows) refl where
  by_found : (o : Option StoredRow) → find test rows ≡ o → option_map (λ s. stored columns (placed columns s)) o ≡ o
  by_found None e = refl
  by_found (Some s) e = ap Some (found-one (GivesAgain columns) test rows s again e).0

-- the rows of a table of the schema, stored
pub record IsStored (columns : List Column) (ps : List PlacedRow) (rows : List StoredRow) : Type 0 where
  pub placed : placed_rows columns rows ≡ ps
  pub again : AllByRecursion (GivesAgain columns) rows

each_stored : (columns : List Column) (ps : List PlacedRow) → nat_lt 1 (count_of is_key columns) ≡ false →
    list_all (is_valid_row columns) (plain_rows ps) ≡ true → AllByRecursion (GivesAgain columns) (map (stored columns) ps)
each_stored columns [] few valid = tt
each_stored columns (p ∷ ps) few valid =
    let parts = and_parts (is_valid_row columns p.row) (list_all (is_valid_row columns) (plain_rows ps)) valid in
    (ap (stored columns) (again_placed columns p few parts.0), each_stored columns ps few parts.1)

store_base : (table : PlacedTable) (columns : List Column) → table.schema.columns ≡ columns → IsPlaced table → IsStored columns table.rows (map (stored columns) table.rows)
store_base table columns same sound =
    let few = (faultless table.schema sound.valid.schema.rules).keys in
    subst (λ (cs : List Column). IsStored cs table.rows (map (stored cs) table.rows)) same (record {
      placed = all_again table.schema.columns table.rows few sound.valid.values;
      again = each_stored table.schema.columns table.rows few sound.valid.values;
    })

-- from the rows of a table to stored rows, and back
to_of : (columns : List Column) (ps : List PlacedRow) (xs ys : List StoredRow) (i : ℤ) → IsStored columns ps xs → AllByRecursion (GivesAgain columns) ys →
    row_of ps i ≡ row_of (placed_rows columns ys) i → stored_of i xs ≡ stored_of i ys
to_of columns ps xs ys i is again same =
    both_back (stored columns) (placed columns) (stored_of i xs) (stored_of i ys) (found_again columns _ xs is.again) (found_again columns _ ys again)
    (sym (placed-of columns xs i) ∙ ap (λ (qs : List PlacedRow). row_of qs i) is.placed ∙ same ∙ placed-of columns ys i)

to_at : (columns : List Column) (ps : List PlacedRow) (xs ys : List StoredRow) (c s : ℕ) → IsStored columns ps xs → AllByRecursion (GivesAgain columns) ys →
    row_at ps c s ≡ row_at (placed_rows columns ys) c s → stored_at xs c s ≡ stored_at ys c s
to_at columns ps xs ys c s is again same =
    both_back (stored columns) (placed columns) (stored_at xs c s) (stored_at ys c s) (found_again columns _ xs is.again) (found_again columns _ ys again)
    (sym (placed-at columns xs c s) ∙ ap (λ (qs : List PlacedRow). row_at qs c s) is.placed ∙ same ∙ placed-at columns ys c s)

from_of : (columns : List Column) (ps : List PlacedRow) (xs ys : List StoredRow) (i : ℤ) → IsStored columns ps xs → stored_of i xs ≡ stored_of i ys → row_of ps i ≡ row_of (placed_rows columns ys) i
from_of columns ps xs ys i is same =
    ap (λ (qs : List PlacedRow). row_of qs i) (sym is.placed) ∙ placed-of columns xs i ∙ ap (λ (o : Option StoredRow). option_map (placed columns) o) same ∙ sym (placed-of columns ys i)

from_at : (columns : List Column) (ps : List PlacedRow) (xs ys : List StoredRow) (c s : ℕ) → IsStored columns ps xs → stored_at xs c s ≡ stored_at ys c s → row_at ps c s ≡ row_at (placed_rows columns ys) c s
from_at columns ps xs ys c s is same =
    ap (λ (qs : List PlacedRow). row_at qs c s) (sym is.placed) ∙ placed-at columns xs c s ∙ ap (λ (o : Option StoredRow). option_map (placed columns) o) same ∙ sym (placed-at columns ys c s)

-- ---- what follows

-- what keeps the origin of the store keeps that of the table
pub keeps-origin : (name : List ℕ) (schema : Schema) (before after : ℤ) (old new : StoreState) → AllByRecursion (GivesAgain schema.columns) old.rows → KeepsStored old new →
    KeepsOrigin (version_of name schema before old) (version_of name schema after new)
keeps-origin name schema before after old new again keeps base follows =
    let columns = schema.columns in
    let xs = map (stored columns) base.rows in
    let is = store_base base columns (ap (λ (s : Schema). s.columns) follows.schema) follows.placed in
    let first : FollowsStored xs old = record {
      by_rowid = λ i out. to_of columns base.rows xs old.rows i is again (follows.by_rowid i out);
      by_place = λ c s out. to_at columns base.rows xs old.rows c s is again (follows.by_place c s out);
    } in
    let last = keeps xs first in
    record {
      placed = follows.placed;
      name = follows.name;
      schema = follows.schema;
      by_rowid = λ i out. from_of columns base.rows xs new.rows i is (last.by_rowid i out);
      by_place = λ c s out. from_at columns base.rows xs new.rows c s is (last.by_place c s out);
    }

-- a store that follows rows shows a table that follows theirs
pub follows-shared : (name : List ℕ) (schema : Schema) (top : ℤ) (older : List StoredRow) (newer : StoreState) → IsPlaced (table_from name schema top older) → FollowsStored older newer →
    Follows (table_from name schema top older) (version_of name schema top newer)
follows-shared name schema top older newer sound follows =
    let columns = schema.columns in
    record {
      placed = sound;
      name = refl;
      schema = refl;
      by_rowid = λ i out. placed-of columns older i ∙ ap (λ (o : Option StoredRow). option_map (placed columns) o) (follows.by_rowid i out) ∙ sym (placed-of columns newer.rows i);
      by_place = λ c s out. placed-at columns older c s ∙ ap (λ (o : Option StoredRow). option_map (placed columns) o) (follows.by_place c s out) ∙ sym (placed-at columns newer.rows c s);
    }
