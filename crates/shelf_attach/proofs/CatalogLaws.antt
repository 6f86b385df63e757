-- A table behind the others of a catalog.
use Rattle.std.proofs.Common.{◌≡◌, ℕ, ◌+◌, ◌<◌, ◌≤◌, Bool, true, false, not, List, [], ◌∷◌, ◌++◌, map, refl, sym, ap, ◌∙◌, subst, arith, Some, None}
use Rattle.std.specs.Prelude.{bytes_eq, cond, nat_le, sum_by, ◌||◌}
use Rattle.std.specs.List.{list_all, AllByRecursion}
use Rattle.std.proofs.lemmas.Bool.{and_parts, and_from, le-leb, leb-true}
use Rattle.std.proofs.lemmas.List.Sums.{sum_by-append, sum_by-cons}
use Rattle.std.proofs.lemmas.Slice.Eq.{bytes_eq-Decides}
use Rattle.row_model.specs.Change.{rows_side_bytes, rows_vector_bytes, table_named}
use Rattle.row_model.specs.Valid.{IsValidCatalog, IsValidTable, has_table, have_own_names, tables_side_bytes, tables_vector_bytes}
use Rattle.row_model.specs.declared.row.Named.{Named}
use Rattle.shadow_records.specs.PlacedTables.{IsPlaced, PlacedTable}
use Rattle.shadow_records.specs.StandsFor.{NumberedTable, catalog_of, named}
use Rattle.vec_base.specs.Words.{is_name}
use Rattle.vec_base.specs.declared.limits.TheConstants.{MOST_SIDE_BYTES, MOST_TABLES, MOST_VECTOR_BYTES}
use Rattle.shelf_attach.specs.inner.Building.{HasRoom}
use Rattle.shelf_attach.proofs.NumberLaws.{numbered_as, rise_more}

abbrev named_with : ℕ → PlacedTable → Named
named_with number table = named (numbered_as number table)

pub named_append : (xs ys : List NumberedTable) → map named (xs ++ ys) ≡ map named xs ++ map named ys
named_append [] ys = refl
named_append (x ∷ xs) ys = ap (λ l. named x ∷ l) (named_append xs ys)

-- ---- names

names_turn : (a b : List ℕ) → bytes_eq a b ≡ false → bytes_eq b a ≡ false
names_turn a b apart = at (bytes_eq b a) refl where
  at : (c : Bool) → bytes_eq b a ≡ c → c ≡ false
  at false is = refl
  at true is = let never : true ≡ false = sym ((bytes_eq-Decides a b).1 (sym ((bytes_eq-Decides b a).0 is))) ∙ apart in absurd cc

none_parts : (name : List ℕ) (x : Named) (xs : List Named) → table_named name (x ∷ xs) ≡ None → (bytes_eq x.name name ≡ false) × (table_named name xs ≡ None)
none_parts name x xs none = at (bytes_eq x.name name) none where
  at : (b : Bool) → cond b (Some x) (table_named name xs) ≡ None → (b ≡ false) × (table_named name xs ≡ None)
  at true none = absurd cc
  at false none = (refl, none)

or_false : (a b : Bool) → a ≡ false → b ≡ false → (a || b) ≡ false
or_false true b x y = absurd cc
or_false false b x y = y

or_none : (a b : Bool) → (a || b) ≡ false → (a ≡ false) × (b ≡ false)
or_none true b h = absurd cc
or_none false b h = (refl, h)

not_false : (b : Bool) → b ≡ false → not b ≡ true
not_false b is = ap not is

not_true : (b : Bool) → not b ≡ true → b ≡ false
not_true true h = absurd cc
not_true false h = refl

has_more : (name : List ℕ) (xs : List Named) (t : Named) → has_table name xs ≡ false → bytes_eq t.name name ≡ false → has_table name (xs ++ t ∷ []) ≡ false
has_more name [] t none apart = or_false (bytes_eq t.name name) false apart refl
has_more name (x ∷ xs) t none apart =
    let parts = or_none (bytes_eq x.name name) (has_table name xs) none in
    or_false (bytes_eq x.name name) (has_table name (xs ++ t ∷ [])) parts.0 (has_more name xs t parts.1 apart)

own_names_more : (xs : List Named) (t : Named) → have_own_names xs ≡ true → table_named t.name xs ≡ None → have_own_names (xs ++ t ∷ []) ≡ true
own_names_more [] t own none = refl
own_names_more (x ∷ xs) t own none =
    let parts = and_parts (not (has_table x.name xs)) (have_own_names xs) own in
    let apart = none_parts t.name x xs none in
    and_from (not (has_table x.name (xs ++ t ∷ []))) (have_own_names (xs ++ t ∷ []))
    (not_false (has_table x.name (xs ++ t ∷ [])) (has_more x.name xs t (not_true (has_table x.name xs) parts.0) (names_turn x.name t.name apart.0)))
    (own_names_more xs t parts.1 apart.1)

has_among : (name : List ℕ) (xs : List Named) (t : Named) (ys : List Named) → has_table name (xs ++ t ∷ ys) ≡ false → bytes_eq t.name name ≡ false
has_among name [] t ys none = (or_none (bytes_eq t.name name) (has_table name ys) none).0
has_among name (x ∷ xs) t ys none = has_among name xs t ys (or_none (bytes_eq x.name name) (has_table name (xs ++ t ∷ ys)) none).1

own_name_among : (xs : List Named) (t : Named) (ys : List Named) → have_own_names (xs ++ t ∷ ys) ≡ true → table_named t.name xs ≡ None
own_name_among [] t ys own = refl
own_name_among (x ∷ xs) t ys own =
    let parts = and_parts (not (has_table x.name (xs ++ t ∷ ys))) (have_own_names (xs ++ t ∷ ys)) own in
    ap (λ b. cond b (Some x) (table_named t.name xs)) (names_turn t.name x.name (has_among x.name xs t ys (not_true (has_table x.name (xs ++ t ∷ ys)) parts.0))) ∙ own_name_among xs t ys parts.1

-- ---- all tables

names_more : (xs : List Named) (t : Named) → list_all (λ (n : Named). is_name n.name) xs ≡ true → is_name t.name ≡ true → list_all (λ (n : Named). is_name n.name) (xs ++ t ∷ []) ≡ true
names_more [] t all one = and_from (is_name t.name) true one refl
names_more (x ∷ xs) t all one =
    let parts = and_parts (is_name x.name) (list_all (λ (n : Named). is_name n.name) xs) all in
    and_from (is_name x.name) (list_all (λ (n : Named). is_name n.name) (xs ++ t ∷ [])) parts.0 (names_more xs t parts.1 one)

tables_more : (xs : List Named) (t : Named) → AllByRecursion (λ (n : Named). IsValidTable n.table) xs → IsValidTable t.table → AllByRecursion (λ (n : Named). IsValidTable n.table) (xs ++ t ∷ [])
tables_more [] t all one = (one, tt)
tables_more (x ∷ xs) t all one = (all.0, tables_more xs t all.1 one)

pub placed_more : (xs : List NumberedTable) (t : NumberedTable) → AllByRecursion (λ (n : NumberedTable). IsPlaced n.table) xs → IsPlaced t.table → AllByRecursion (λ (n : NumberedTable). IsPlaced n.table) (xs ++ t ∷ [])
placed_more [] t all one = (one, tt)
placed_more (x ∷ xs) t all one = (all.0, placed_more xs t all.1 one)

-- ---- bytes

sum_more : (f : Named → ℕ) (xs : List Named) (t : Named) → sum_by f (xs ++ t ∷ []) ≡ sum_by f xs + f t
sum_more f xs t = (let one = sum_by-append f xs (t ∷ []) in let last = sum_by-cons f t [] in omega (arith, one, last))

sum_among : (f : Named → ℕ) (xs : List Named) (t : Named) (ys : List Named) → sum_by f xs + f t ≤ sum_by f (xs ++ t ∷ ys)
sum_among f xs t ys = (let one = sum_by-append f xs (t ∷ ys) in let first = sum_by-cons f t ys in omega (arith, one, first))

pub vectors_more : (xs : List Named) (t : Named) → tables_vector_bytes (xs ++ t ∷ []) ≡ tables_vector_bytes xs + rows_vector_bytes t.table.rows
vectors_more xs t = sum_more (λ (n : Named). rows_vector_bytes n.table.rows) xs t

pub sides_more : (xs : List Named) (t : Named) → tables_side_bytes (xs ++ t ∷ []) ≡ tables_side_bytes xs + rows_side_bytes t.table.rows
sides_more xs t = sum_more (λ (n : Named). rows_side_bytes n.table.rows) xs t

-- ---- the catalog

-- a catalog with a table behind its others is valid, where that one may stand there
pub valid_more : (xs : List NumberedTable) (n : ℕ) (v : PlacedTable) → IsValidCatalog (catalog_of xs) → AllByRecursion (λ (t : NumberedTable). t.number < n) xs → 1 ≤ n → n ≤ MOST_TABLES → IsPlaced v → HasRoom (map named xs) v →
    IsValidCatalog (catalog_of (xs ++ numbered_as n v ∷ []))
valid_more xs n v valid below low high placed room =
    let are = named_append xs (numbered_as n v ∷ []) in
    let tables = map named xs in
    let t = named_with n v in
    let vectors : tables_vector_bytes (tables ++ t ∷ []) ≤ MOST_VECTOR_BYTES = (let sum = vectors_more tables t in let most = room.vectors in omega (arith, sum, most)) in
    let sides : tables_side_bytes (tables ++ t ∷ []) ≤ MOST_SIDE_BYTES = (let sum = sides_more tables t in let most = room.sides in omega (arith, sum, most)) in
    record {
      numbers = rise_more 0 xs n v valid.numbers below (omega (arith, low)) high;
      own_names = ap have_own_names are ∙ own_names_more tables t valid.own_names room.own_name;
      names = ap (list_all (λ (m : Named). is_name m.name)) are ∙ names_more tables t valid.names placed.name;
      tables = subst (AllByRecursion (λ (m : Named). IsValidTable m.table)) (sym are) (tables_more tables t valid.tables placed.valid);
      vectors = ap (λ l. nat_le (tables_vector_bytes l) MOST_VECTOR_BYTES) are ∙ le-leb (tables_vector_bytes (tables ++ t ∷ [])) MOST_VECTOR_BYTES vectors;
      sides = ap (λ l. nat_le (tables_side_bytes l) MOST_SIDE_BYTES) are ∙ le-leb (tables_side_bytes (tables ++ t ∷ [])) MOST_SIDE_BYTES sides;
    }

-- a table of a valid catalog may stand behind those before it
pub room_among : (xs : List NumberedTable) (n : ℕ) (v : PlacedTable) (rest ys : List NumberedTable) → ys ≡ xs ++ numbered_as n v ∷ rest → IsValidCatalog (catalog_of ys) → HasRoom (map named xs) v
room_among xs n v rest ys is valid =
    let are : map named ys ≡ map named xs ++ named_with n v ∷ map named rest = ap (map named) is ∙ named_append xs (numbered_as n v ∷ rest) in
    let tables = map named xs in
    let t = named_with n v in
    record {
      own_name = own_name_among tables t (map named rest) (ap have_own_names (sym are) ∙ valid.own_names);
      vectors = (
          let most = leb-true (tables_vector_bytes (map named ys)) MOST_VECTOR_BYTES valid.vectors in
          let all = ap tables_vector_bytes are in
          let part = sum_among (λ (m : Named). rows_vector_bytes m.table.rows) tables t (map named rest) in
          omega (arith, most, all, part));
      sides = (
          let most = leb-true (tables_side_bytes (map named ys)) MOST_SIDE_BYTES valid.sides in
          let all = ap tables_side_bytes are in
          let part = sum_among (λ (m : Named). rows_side_bytes m.table.rows) tables t (map named rest) in
          omega (arith, most, all, part));
    }
