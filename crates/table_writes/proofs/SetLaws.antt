-- What the checks of an UPDATE say of its new values: each is for a declared column that is no key and no partition column, and no two are for one column.
use Rattle.std.proofs.Common.{◌≡◌, ℕ, ◌-◌, ◌≤◌, Bool, true, false, List, [], ◌∷◌, ◌++◌, ◌∙◌, refl, sym, ap, arith, length, None}
use Rattle.std.specs.Prelude.{◌==◌, ◌||◌, not, ⊤}
use Rattle.std.specs.List.{list_any, AllByRecursion}
use Rattle.std.proofs.lemmas.Bool.{eq-eqb}
use Rattle.vec_base.specs.declared.refusal.Refusal.TheVariants.{NoColumn, FixedColumn}
use Rattle.row_model.specs.Check.{change_forms, check_update, index_after, is_fixed, next, repeats, set_faults, sets_faults, terms_faults, update_faults}
use Rattle.row_model.specs.ColumnNames.{column_number, is_stored, place_of, root}
use Rattle.row_model.specs.RefusalOrder.{when}
use Rattle.row_model.specs.Schemas.{is_key, is_partition}
use Rattle.row_model.specs.Values.{given_faults}
use Rattle.row_model.specs.declared.schema.Column.{Column}
use Rattle.row_model.specs.declared.schema.Kind.{Kind}
use Rattle.row_model.specs.declared.schema.Kind.TheVariants.{IntKey, TextKey, Int8Vector, BitVector, IntPartition, TextPartition, IntMeta, TextMeta, BoolMeta, IntAux, TextAux, BlobAux}
use Rattle.row_model.specs.declared.schema.Place.{Place}
use Rattle.row_model.specs.declared.schema.Place.TheVariants.{Unknown, Rowid, Declared, Count, Distance}
use Rattle.row_model.specs.declared.statement.Assign.{Assign}
use Rattle.row_model.specs.declared.statement.Update.{Update}
use Rattle.row_model.proofs.BoolLaws.{or_first, or_second}
use Rattle.row_model.proofs.SchemaLaws.{declared_from, place_declared}
use Rattle.row_model.proofs.SelectLaws.{both_empty, least_none, when_empty}
use Rattle.row_model.proofs.ValidityRows.{IsSet, sets_of}
use Rattle.table_writes.specs.inner.NewValues.{declared_number}

-- the place of a column that can be set, and what the value's column says of it
pub record IsChange (columns : List Column) (set : Assign) : Type 0 where
  pub number : ℕ
  pub kind : Kind
  pub at : place_of columns set.column ≡ Declared number kind
  pub positive : 1 ≤ number
  pub no_key : is_key kind ≡ false
  pub no_partition : is_partition kind ≡ false
  pub given : given_faults (Declared number kind) set.value ≡ []

change_at : (columns : List Column) (seen : List Place) (index : ℕ) (set : Assign) (place : Place) → place_of columns set.column ≡ place → set_faults seen index place set.value ≡ [] → IsChange columns set
change_at columns seen index set place at none =
    let parts = both_empty (when (not (is_stored place) || repeats seen place) (NoColumn index) ++ when (is_fixed place) (FixedColumn (column_number place))) (given_faults place set.value) none in
    let firsts = both_empty (when (not (is_stored place) || repeats seen place) (NoColumn index)) (when (is_fixed place) (FixedColumn (column_number place))) parts.0 in
    let stored = or_first (not (is_stored place)) (repeats seen place) (when_empty (not (is_stored place) || repeats seen place) (NoColumn index) firsts.0) in
    let free = when_empty (is_fixed place) (FixedColumn (column_number place)) firsts.1 in
    by_place place at stored free parts.1
  where
    by_place : (place : Place) → place_of columns set.column ≡ place → not (is_stored place) ≡ false → is_fixed place ≡ false → given_faults place set.value ≡ [] → IsChange columns set
    by_place Unknown at stored free given = absurd cc
    by_place Rowid at stored free given = absurd cc
    by_place (Declared number kind) at stored free given = record {
      number = number;
      kind = kind;
      at = at;
      positive = declared_from set.column 1 columns number kind (place_declared columns set.column number kind at);
      no_key = or_first (is_key kind) (is_partition kind) free;
      no_partition = or_second (is_key kind) (is_partition kind) free;
      given = given;
    }
    by_place Count at stored free given = absurd cc
    by_place Distance at stored free given = absurd cc

changes_of : (columns : List Column) (seen : List Place) (index : ℕ) (sets : List Assign) → sets_faults columns seen index sets ≡ [] → AllByRecursion (IsChange columns) sets
changes_of columns seen index [] none = tt
changes_of columns seen index (set ∷ sets) none =
    let place = place_of columns set.column in
    let parts = both_empty (set_faults seen index place set.value) (sets_faults columns (seen ++ place ∷ []) (next index) sets) none in
    (change_at columns seen index set place refl parts.0, changes_of columns (seen ++ place ∷ []) (next index) sets parts.1)

-- ---- no two for one column

-- the index of a column among the values of a row
abbrev pub index_of : List Column → Assign → ℕ
index_of columns set = declared_number (place_of columns set.column) - 1

abbrev pub AreApart : List Column → List Assign → Type 0
AreApart columns [] = ⊤
AreApart columns (set ∷ sets) = AllByRecursion (λ (later : Assign). index_of columns set ≡ index_of columns later → ⊥) sets × AreApart columns sets

abbrev is_seen : List Place → ℕ → Bool
is_seen seen n = list_any (λ (other : Place). root other == n) seen

seen_before : (seen : List Place) (place : Place) (n : ℕ) → is_seen seen n ≡ true → is_seen (seen ++ place ∷ []) n ≡ true
seen_before [] place n h = absurd cc
seen_before (p ∷ ps) place n h = by_test (root p == n) h (seen_before ps place n) where
  by_test : (b : Bool) → (b || is_seen ps n) ≡ true → (is_seen ps n ≡ true → is_seen (ps ++ place ∷ []) n ≡ true) → (b || is_seen (ps ++ place ∷ []) n) ≡ true
  by_test true e rest = refl
  by_test false e rest = rest e

seen_last : (seen : List Place) (place : Place) (n : ℕ) → root place ≡ n → is_seen (seen ++ place ∷ []) n ≡ true
seen_last [] place n h = ap (λ b. b || false) (eq-eqb (root place) n h)
seen_last (p ∷ ps) place n h = by_test (root p == n) (seen_last ps place n h) where
  by_test : (b : Bool) → is_seen (ps ++ place ∷ []) n ≡ true → (b || is_seen (ps ++ place ∷ []) n) ≡ true
  by_test true rest = refl
  by_test false rest = rest

-- later ones are for other columns than those that were seen
others : (columns : List Column) (seen : List Place) (index : ℕ) (sets : List Assign) (n : ℕ) → sets_faults columns seen index sets ≡ [] → is_seen seen n ≡ true →
    AllByRecursion (λ (set : Assign). root (place_of columns set.column) ≡ n → ⊥) sets
others columns seen index [] n none there = tt
others columns seen index (set ∷ sets) n none there =
    let place = place_of columns set.column in
    let parts = both_empty (set_faults seen index place set.value) (sets_faults columns (seen ++ place ∷ []) (next index) sets) none in
    let firsts = both_empty (when (not (is_stored place) || repeats seen place) (NoColumn index) ++ when (is_fixed place) (FixedColumn (column_number place))) (given_faults place set.value) parts.0 in
    let named = both_empty (when (not (is_stored place) || repeats seen place) (NoColumn index)) (when (is_fixed place) (FixedColumn (column_number place))) firsts.0 in
    let new = or_second (not (is_stored place)) (repeats seen place) (when_empty (not (is_stored place) || repeats seen place) (NoColumn index) named.0) in
    ((λ same. again (root place) same new), others columns (seen ++ place ∷ []) (next index) sets n parts.1 (seen_before seen place n there))
  where
    again : (r : ℕ) → r ≡ n → is_seen seen r ≡ false → ⊥
    again r same new = let here : is_seen seen n ≡ false = ap (is_seen seen) (sym same) ∙ new in absurd cc

plain_root : (number : ℕ) (kind : Kind) → is_key kind ≡ false → root (Declared number kind) ≡ number
plain_root number IntKey plain = absurd cc
plain_root number TextKey plain = refl
plain_root number (Int8Vector width metric) plain = refl
plain_root number (BitVector width) plain = refl
plain_root number IntPartition plain = refl
plain_root number TextPartition plain = refl
plain_root number IntMeta plain = refl
plain_root number TextMeta plain = refl
plain_root number BoolMeta plain = refl
plain_root number IntAux plain = refl
plain_root number TextAux plain = refl
plain_root number BlobAux plain = refl

-- the number of the column itself is that of its place
root_is : (columns : List Column) (set : Assign) → IsChange columns set → root (place_of columns set.column) ≡ declared_number (place_of columns set.column)
root_is columns set is = ap root is.at ∙ plain_root is.number is.kind is.no_key ∙ sym (ap declared_number is.at)

low : (columns : List Column) (set : Assign) → IsChange columns set → 1 ≤ declared_number (place_of columns set.column)
low columns set is = let same = ap declared_number is.at in let one = is.positive in omega (arith, same, one)

apart_from : (columns : List Column) (set : Assign) (sets : List Assign) → IsChange columns set → AllByRecursion (IsChange columns) sets →
    AllByRecursion (λ (later : Assign). root (place_of columns later.column) ≡ root (place_of columns set.column) → ⊥) sets →
    AllByRecursion (λ (later : Assign). index_of columns set ≡ index_of columns later → ⊥) sets
apart_from columns set [] is all other = tt
apart_from columns set (later ∷ sets) is all other =
    ((λ same. other.0 (turned same)), apart_from columns set sets is all.1 other.1)
  where
    turned : index_of columns set ≡ index_of columns later → root (place_of columns later.column) ≡ root (place_of columns set.column)
    turned same =
        let a = root_is columns set is in
        let b = root_is columns later all.0 in
        let c = low columns set is in
        let d = low columns later all.0 in
        omega (arith, same, a, b, c, d)

apart_all : (columns : List Column) (seen : List Place) (index : ℕ) (sets : List Assign) → sets_faults columns seen index sets ≡ [] → AreApart columns sets
apart_all columns seen index [] none = tt
apart_all columns seen index (set ∷ sets) none =
    let place = place_of columns set.column in
    let parts = both_empty (set_faults seen index place set.value) (sets_faults columns (seen ++ place ∷ []) (next index) sets) none in
    let one = change_at columns seen index set place refl parts.0 in
    let rest = changes_of columns (seen ++ place ∷ []) (next index) sets parts.1 in (
      apart_from columns set sets one rest (others columns (seen ++ place ∷ []) (next index) sets (root place) parts.1 (seen_last seen place (root place) refl)),
      apart_all columns (seen ++ place ∷ []) (next index) sets parts.1,
    )

-- ---- the whole UPDATE

pub record AreChecked (columns : List Column) (all : List Assign) : Type 0 where
  pub changes : AllByRecursion (IsChange columns) all
  pub apart : AreApart columns all
  pub sets : AllByRecursion (IsSet columns) all

pub checked_sets : (columns : List Column) (update : Update) → check_update columns update ≡ None → AreChecked columns update.sets
checked_sets columns update none =
    let sets = sets_faults columns [] 1 update.sets in
    let terms = terms_faults columns (index_after (length update.sets)) update.where_terms in
    let faults = both_empty (sets ++ terms) (change_forms columns update.where_terms) (least_none (update_faults columns update) none) in
    let own = (both_empty sets terms faults.0).0 in
    record { changes = changes_of columns [] 1 update.sets own; apart = apart_all columns [] 1 update.sets own; sets = sets_of columns [] 1 update.sets own }
