-- The value of a column stands, among those of the columns that are for the same, at the number of such columns before it.
use Rattle.std.proofs.Common.{◌≡◌, ℕ, zero, suc, ◌+◌, ◌-◌, ◌<◌, ◌≤◌, Bool, true, false, cond, if◌then◌else◌, List, [], ◌∷◌, refl, sym, ◌∙◌, ap, subst, arith, length, get_or, take, bytes_eq}
use Rattle.std.proofs.lemmas.List.Sums.{sum_by-cons}
use Rattle.vec_base.specs.declared.value.Value.{Value}
use Rattle.vec_base.specs.declared.value.Value.TheVariants.{Null}
use Rattle.row_model.specs.ColumnNames.{column_number, declared_place, is_of, place_of}
use Rattle.row_model.specs.Schemas.{count_of, has_role, is_key, is_same_role, role_of}
use Rattle.row_model.specs.Values.{value_at}
use Rattle.row_model.specs.declared.row.Row.{Row}
use Rattle.row_model.specs.declared.schema.Column.{Column}
use Rattle.row_model.specs.declared.schema.Kind.{Kind}
use Rattle.row_model.specs.declared.schema.Kind.TheVariants.{IntKey, TextKey, Int8Vector, BitVector, IntPartition, TextPartition, IntMeta, TextMeta, BoolMeta, IntAux, TextAux, BlobAux}
use Rattle.row_model.specs.declared.schema.Place.{Place}
use Rattle.row_model.specs.declared.schema.Place.TheVariants.{Unknown, Rowid, Declared, Count, Distance}
use Rattle.row_model.specs.declared.schema.Role.{Role}
use Rattle.row_model.specs.declared.schema.Role.TheVariants.{Key, Vector, Partition, Metadata, Auxiliary}
use Rattle.row_model.proofs.SchemaLaws.{kind_at, place_declared}
use Rattle.knn_plan.specs.PlannedColumns.{named_column, number_among}

-- what f makes of the values in the columns of a sort, in order
abbrev pub values_of : {A : Type 0} → (Kind → Bool) → (Value → A) → List Column → List Value → List A
values_of sort f (column ∷ columns) (value ∷ values) = cond (sort column.kind) (f value ∷ values_of sort f columns values) (values_of sort f columns values)
values_of sort f [] values = []
values_of sort f (column ∷ columns) [] = []

count_first : (sort : Kind → Bool) (column : Column) (columns : List Column) → count_of sort (column ∷ columns) ≡ cond (sort column.kind) 1 0 + count_of sort columns
count_first sort column columns = sum_by-cons (λ (c : Column). cond (sort c.kind) 1 0) column columns

-- one value further on
one_further : {A : Type 0} (b : Bool) (x : A) (xs : List A) (n : ℕ) (d : A) → get_or (cond b (x ∷ xs) xs) (cond b 1 0 + n) d ≡ get_or xs n d
one_further true x xs n d = ap (λ k. get_or (x ∷ xs) k d) (one_more n)
  where
    one_more : (n : ℕ) → 1 + n ≡ suc n
    one_more n = omega arith
one_further false x xs n d = ap (λ k. get_or xs k d) (none_more n)
  where
    none_more : (n : ℕ) → 0 + n ≡ n
    none_more n = omega arith

-- The first law, for the column at a place.
pub value_there : {A : Type 0} (sort : Kind → Bool) (f : Value → A) (columns : List Column) (values : List Value) (j : ℕ) (c : Column) (v : Value) (d : A) →
    sort (get_or columns j c).kind ≡ true → j < length columns → j < length values →
    get_or (values_of sort f columns values) (count_of sort (take j columns)) d ≡ f (get_or values j v)
value_there sort f [] values j c v d is within long = absurd (omega arith)
value_there sort f (column ∷ columns) [] j c v d is within long = absurd (omega arith)
value_there sort f (column ∷ columns) (value ∷ values) zero c v d is within long = ap (λ b. get_or (cond b (f value ∷ values_of sort f columns values) (values_of sort f columns values)) 0 d) is
value_there sort f (column ∷ columns) (value ∷ values) (suc j) c v d is within long =
    ap (λ n. get_or (values_of sort f (column ∷ columns) (value ∷ values)) n d) (count_first sort column (take j columns))
    ∙ one_further (sort column.kind) (f value) (values_of sort f columns values) (count_of sort (take j columns)) d
    ∙ value_there sort f columns values j c v d is (omega arith) (omega arith)

-- ---- the column of a name

-- a declared place is that of a column of its kind
pub record IsColumnAt (columns : List Column) (j : ℕ) (kind : Kind) : Type 0 where
  pub within : j < length columns
  pub kind_is : (d : Column) → (get_or columns j d).kind ≡ kind

one_on : (column : Column) (columns : List Column) (j : ℕ) (kind : Kind) → IsColumnAt columns j kind → IsColumnAt (column ∷ columns) (suc j) kind
one_on column columns j kind is = record { within = omega (arith, is.within); kind_is = is.kind_is }

at_number : (columns : List Column) (i j : ℕ) (kind : Kind) → i ≡ j → IsColumnAt columns j kind → IsColumnAt columns i kind
at_number columns i j kind same is = record { within = omega (arith, same, is.within); kind_is = λ d. ap (λ n. (get_or columns n d).kind) same ∙ is.kind_is d }

declared_there : (name : List ℕ) (n : ℕ) (columns : List Column) (m : ℕ) (kind : Kind) → declared_place name n columns ≡ Declared m kind → (n ≤ m) × IsColumnAt columns (m - n) kind
declared_there name n [] m kind is = absurd cc
declared_there name n (column ∷ columns) m kind is =
    elim (bytes_eq column.name name) as (λ b. (if b then Declared n column.kind else declared_place name (n + 1) columns) ≡ Declared m kind → (n ≤ m) × IsColumnAt (column ∷ columns) (m - n) kind) [
      | true ↦ λ e.
          let same : n ≡ m = ap column_number e in
          let first : IsColumnAt (column ∷ columns) 0 kind = record { within = omega arith; kind_is = λ d. ap kind_at e } in
          (omega (arith, same), at_number (column ∷ columns) (m - n) 0 kind (omega (arith, same)) first)
      | false ↦ λ e.
          let rest = declared_there name (n + 1) columns m kind e in
          let low = rest.0 in
          (omega (arith, low), at_number (column ∷ columns) (m - n) (suc (m - (n + 1))) kind (omega (arith, low)) (one_on column columns (m - (n + 1)) kind rest.1))
    ] is

pub column_there : (columns : List Column) (name : List ℕ) (m : ℕ) (kind : Kind) → place_of columns name ≡ Declared m kind → (1 ≤ m) × IsColumnAt columns (m - 1) kind
column_there columns name m kind is = declared_there name 1 columns m kind (place_declared columns name m kind is)

-- ---- the value in the column of a name

-- the value in a column that is no key
stored_value : (m : ℕ) (kind : Kind) (row : Row) → is_key kind ≡ false → value_at (Declared m kind) row ≡ get_or row.values (m - 1) Null
stored_value m IntKey row plain = absurd cc
stored_value m TextKey row plain = refl
stored_value m (Int8Vector width metric) row plain = refl
stored_value m (BitVector width) row plain = refl
stored_value m IntPartition row plain = refl
stored_value m TextPartition row plain = refl
stored_value m IntMeta row plain = refl
stored_value m TextMeta row plain = refl
stored_value m BoolMeta row plain = refl
stored_value m IntAux row plain = refl
stored_value m TextAux row plain = refl
stored_value m BlobAux row plain = refl

itself : (role : Role) → is_same_role role role ≡ true
itself Key = refl
itself Vector = refl
itself Partition = refl
itself Metadata = refl
itself Auxiliary = refl

some_column : Column
some_column = record { name = []; kind = IntKey }

declared_shows : {A : Type 0} (f : Value → A) (columns : List Column) (name : List ℕ) (m : ℕ) (kind : Kind) (row : Row) (d : A) → place_of columns name ≡ Declared m kind → is_key kind ≡ false →
    length row.values ≡ length columns → get_or (values_of (has_role (role_of kind)) f columns row.values) (number_among columns (Declared m kind)) d ≡ f (value_at (Declared m kind) row)
declared_shows f columns name m kind row d is plain wide =
    let at = (column_there columns name m kind is).1 in
    let within = at.within in
    value_there (has_role (role_of kind)) f columns row.values (m - 1) some_column Null d (ap (has_role (role_of kind)) (at.kind_is some_column) ∙ itself (role_of kind)) within (omega (arith, within, wide))
    ∙ ap f (sym (stored_value m kind row plain))

same_role : (a b : Role) → is_same_role a b ≡ true → a ≡ b
same_role Key Key is = refl
same_role Key Vector is = absurd cc
same_role Key Partition is = absurd cc
same_role Key Metadata is = absurd cc
same_role Key Auxiliary is = absurd cc
same_role Vector Key is = absurd cc
same_role Vector Vector is = refl
same_role Vector Partition is = absurd cc
same_role Vector Metadata is = absurd cc
same_role Vector Auxiliary is = absurd cc
same_role Partition Key is = absurd cc
same_role Partition Vector is = absurd cc
same_role Partition Partition is = refl
same_role Partition Metadata is = absurd cc
same_role Partition Auxiliary is = absurd cc
same_role Metadata Key is = absurd cc
same_role Metadata Vector is = absurd cc
same_role Metadata Partition is = absurd cc
same_role Metadata Metadata is = refl
same_role Metadata Auxiliary is = absurd cc
same_role Auxiliary Key is = absurd cc
same_role Auxiliary Vector is = absurd cc
same_role Auxiliary Partition is = absurd cc
same_role Auxiliary Metadata is = absurd cc
same_role Auxiliary Auxiliary is = refl

-- The second law, for the column of a name that is for a role, which is not that of keys.
pub role_shows : {A : Type 0} (role : Role) (f : Value → A) (columns : List Column) (name : List ℕ) (row : Row) (d : A) → is_same_role role Key ≡ false →
    is_of (has_role role) (place_of columns name) ≡ true → length row.values ≡ length columns →
    get_or (values_of (has_role role) f columns row.values) (named_column columns name).number d ≡ f (value_at (place_of columns name) row)
role_shows {A = A} role f columns name row d plain is wide = by (place_of columns name) refl is
  where
    by : (place : Place) → place_of columns name ≡ place → is_of (has_role role) place ≡ true →
        get_or (values_of (has_role role) f columns row.values) (number_among columns place) d ≡ f (value_at place row)
    by (Declared m kind) at is_role =
        let same = same_role (role_of kind) role is_role in
        subst (λ r. get_or (values_of (has_role r) f columns row.values) (number_among columns (Declared m kind)) d ≡ f (value_at (Declared m kind) row)) same
        (declared_shows f columns name m kind row d at (ap (λ r. is_same_role r Key) same ∙ plain) wide)
    by Unknown at is_role = absurd cc
    by Rowid at is_role = absurd cc
    by Count at is_role = absurd cc
    by Distance at is_role = absurd cc
