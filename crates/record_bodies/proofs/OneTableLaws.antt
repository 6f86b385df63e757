-- Records stand for at most one table, and for at most one catalog, where a text is written for at most one schema.
use Rattle.std.proofs.Common.{◌≡◌, ℕ, ◌==◌, ℤ, pos, int_lt, int_le, nat_lt, FitsSigned, List, [], ◌∷◌, ◌++◌, length, map, take, drop, cond, Bool, true, false, refl, sym, ap, ap₂, ◌∙◌, subst, arith, T}
use Rattle.std.specs.declared.option.Option.{Option}
use Rattle.std.specs.declared.option.Option.TheVariants.{Some, None}
use Rattle.std.specs.List.{list_all, AllByRecursion}
use Rattle.std.specs.Int.{w64}
use Rattle.std.specs.Ordering.{int_cmp, nat_cmp, is_lt, eq_by_cmp}
use Rattle.std.specs.Cmp.{int_cmp_total, nat_cmp_total, eq_by_cmp_equiv}
use Rattle.std.specs.FinMap.{get, find, from_sorted, same_map, get-from_sorted, entries, entries-from_sorted, is_sorted, int_cmp-IsAntisymmetric, nat_cmp-IsAntisymmetric}
use Rattle.std.specs.FinMap.Entries.{below_all}
use Rattle.std.proofs.lemmas.Bool.{and_parts, and_from}
use Rattle.std.proofs.lemmas.Int.{ints}
use Rattle.std.proofs.Math.Seq.{take-append_seam}
use Rattle.vec_base.specs.declared.shadow.ShadowKey.{ShadowKey}
use Rattle.vec_base.specs.declared.limits.TheConstants.{LAST_ROWID}
use Rattle.row_model.specs.declared.row.Row.{Row}
use Rattle.row_model.specs.declared.row.Catalog.{Catalog}
use Rattle.row_model.specs.declared.schema.Schema.{Schema}
use Rattle.row_model.specs.CanonicalColumns.{canonical_columns}
use Rattle.row_model.specs.Rows.{is_rising}
use Rattle.row_model.specs.Valid.{numbers_rise}
use Rattle.shadow_records.specs.Keys.{Tables, key_of}
use Rattle.shadow_records.specs.PlacedTables.{PlacedRow, PlacedTable, plain_rows, row_of, IsPlaced}
use Rattle.shadow_records.specs.Cells.{number_bytes}
use Rattle.shadow_records.specs.Records.{RecordsAre}
use Rattle.shadow_records.specs.StandsFor.{NumberedTable, named, catalog_of, table_of, record_in, StandsFor}
use Rattle.record_bodies.specs.Bodies.{number_in}
use Rattle.record_bodies.specs.ReadRows.{decoded}
use Rattle.record_bodies.specs.OneText.{OneText}
use Rattle.record_bodies.proofs.CellLaws.{drop_seam}
use Rattle.record_bodies.proofs.ValueLaws.{number_back}
use Rattle.record_bodies.proofs.DecodingLaws.{decoded_is}

-- ---- rows by rising rowids

abbrev by_rowid : List PlacedRow → List (ℤ × PlacedRow)
by_rowid rows = map (λ (p : PlacedRow). (p.row.rowid, p)) rows

find_row : (rows : List PlacedRow) (rowid : ℤ) → find int_cmp rowid (by_rowid rows) ≡ row_of rows rowid
find_row [] rowid = refl
find_row (r ∷ rows) rowid = ap₂ (λ b o. cond b (Some r) o) ((eq_by_cmp_equiv int_cmp_total).symm rowid r.row.rowid) (find_row rows rowid)

rows_back : (rows : List PlacedRow) → map (λ (p : ℤ × PlacedRow). p.1) (by_rowid rows) ≡ rows
rows_back [] = refl
rows_back (r ∷ rows) = ap (λ l. r ∷ l) (rows_back rows)

less_is : (a b : ℤ) → int_lt a b ≡ true → is_lt (int_cmp a b) ≡ true
less_is a b h = grind (arith, ints)

below : (rowid : ℤ) (rows : List PlacedRow) → list_all (λ (row : Row). int_lt rowid row.rowid) (plain_rows rows) ≡ true → below_all int_cmp rowid (by_rowid rows) ≡ true
below rowid [] e = refl
below rowid (r ∷ rows) e = (let p = and_parts _ _ e in and_from _ _ (less_is rowid r.row.rowid p.0) (below rowid rows p.1))

sorted : (rows : List PlacedRow) → is_rising (plain_rows rows) ≡ true → is_sorted int_cmp (by_rowid rows) ≡ true
sorted [] e = refl
sorted (r ∷ rows) e = (let p = and_parts _ _ e in and_from _ _ (below r.row.rowid rows p.0) (sorted rows p.1))

-- rows in rising order are told by what is found under each rowid
pub rising_same : (rows others : List PlacedRow) → is_rising (plain_rows rows) ≡ true → is_rising (plain_rows others) ≡ true → ((rowid : ℤ) → row_of rows rowid ≡ row_of others rowid) → rows ≡ others
rising_same rows others a b same =
    let x : T (is_sorted int_cmp (by_rowid rows)) = subst T (sym (sorted rows a)) tt in
    let y : T (is_sorted int_cmp (by_rowid others)) = subst T (sym (sorted others b)) tt in
    let maps : from_sorted {R = int_cmp} (by_rowid rows) ≡ from_sorted (by_rowid others) =
    same_map int_cmp_total int_cmp-IsAntisymmetric (from_sorted (by_rowid rows)) (from_sorted (by_rowid others)) (λ q.
    get-from_sorted int_cmp (by_rowid rows) q x ∙ find_row rows q ∙ same q ∙ sym (find_row others q) ∙ sym (get-from_sorted int_cmp (by_rowid others) q y)) in
    sym (rows_back rows)
    ∙ ap (map (λ (p : ℤ × PlacedRow). p.1)) (sym (entries-from_sorted int_cmp (by_rowid rows) x) ∙ ap entries maps ∙ entries-from_sorted int_cmp (by_rowid others) y)
    ∙ rows_back others

-- ---- one table

body_is : {xs ys : List ℕ} → Some xs ≡ Some ys → xs ≡ ys
body_is e = cc

pub parts_same : (a b c d : List ℕ) → length a ≡ length b → a ++ c ≡ b ++ d → (a ≡ b) × (c ≡ d)
parts_same a b c d long e = (
  sym (take-append_seam a c) ∙ ap₂ take long e ∙ take-append_seam b d,
  sym (drop_seam a c (length a) refl) ∙ ap₂ drop long e ∙ drop_seam b d (length b) refl,
)

pub head_is : {x y : ℕ} {xs ys : List ℕ} → x ∷ xs ≡ y ∷ ys → (x ≡ y) × (xs ≡ ys)
head_is e = (cc, cc)

-- a number from 0 to the last rowid has 64 bits
top_fits : (v : PlacedTable) → IsPlaced v → FitsSigned w64 v.top
top_fits v p = between v.top p.valid.from_zero p.valid.last where
  between : (n : ℤ) → int_le (pos 0) n ≡ true → int_le n LAST_ROWID ≡ true → FitsSigned w64 n
  between n a b = grind (arith, ints)

four : (v w : PlacedTable) → v.name ≡ w.name → v.schema ≡ w.schema → v.top ≡ w.top → v.rows ≡ w.rows → v ≡ w
four v w a b c d = λ i. record { name = a i; schema = b i; top = c i; rows = d i }

-- two sound tables that have the same records are one
pub one_table : OneText → (number : ℕ) (v w : PlacedTable) (read : ShadowKey → Option (List ℕ)) → IsPlaced v → IsPlaced w → RecordsAre number v read → RecordsAre number w read → v ≡ w
one_table one number v w read p q a b =
    let info = head_is (body_is (sym (a (key_of number 1 (pos 0) (pos 0)) refl) ∙ b (key_of number 1 (pos 0) (pos 0)) refl)) in
    let spelled = parts_same v.name w.name (canonical_columns v.schema) (canonical_columns w.schema) info.0 info.1 in
    let schema = one v.schema w.schema p.valid.schema q.valid.schema spelled.1 in
    let top : number_bytes v.top ≡ number_bytes w.top = body_is (sym (a (key_of number 1 (pos 1) (pos 0)) refl) ∙ b (key_of number 1 (pos 1) (pos 0)) refl) in
    four v w spelled.0 schema (sym (number_back v.top (top_fits v p)) ∙ ap number_in top ∙ number_back w.top (top_fits w q))
    (rising_same v.rows w.rows p.valid.rising q.valid.rising (λ rowid. sym (decoded_is number v read a p rowid) ∙ ap (λ (s : Schema). decoded read number s.columns rowid) schema ∙ decoded_is number w read b q rowid))

-- ---- one catalog

abbrev pairs : List NumberedTable → List (ℕ × PlacedTable)
pairs tables = map (λ (t : NumberedTable). (t.number, t.table)) tables

tables_back : (tables : List NumberedTable) → map (λ (t : ℕ × PlacedTable). record { number = t.0; table = t.1 }) (pairs tables) ≡ tables
tables_back [] = refl
tables_back (t ∷ tables) = ap (λ l. t ∷ l) (tables_back tables)

find_table : (tables : List NumberedTable) (number : ℕ) → find nat_cmp number (pairs tables) ≡ table_of tables number
find_table [] number = refl
find_table (t ∷ tables) number = ap₂ (λ b o. cond b (Some t.table) o) (same number t.number) (find_table tables number) where
  same : (a b : ℕ) → eq_by_cmp nat_cmp a b ≡ (b == a)
  same a b = grind arith

numbers_sorted : (before : ℕ) (tables : List NumberedTable) → numbers_rise before (map named tables) ≡ true → (is_sorted nat_cmp (pairs tables) ≡ true) × (below_all nat_cmp before (pairs tables) ≡ true)
numbers_sorted before [] e = (refl, refl)
numbers_sorted before (t ∷ tables) e =
    let p = and_parts _ _ e in
    let rest = numbers_sorted t.number tables (and_parts _ _ p.1).1 in
    (and_from _ _ rest.1 rest.0, and_from _ _ (less before t.number p.0) (lower before t.number tables p.0 rest.1)) where
      less : (a b : ℕ) → nat_lt a b ≡ true → is_lt (nat_cmp a b) ≡ true
      less a b h = grind arith

      more : (a b c : ℕ) → nat_lt a b ≡ true → is_lt (nat_cmp b c) ≡ true → is_lt (nat_cmp a c) ≡ true
      more a b c h g = grind arith

      lower : (a b : ℕ) (tables : List NumberedTable) → nat_lt a b ≡ true → below_all nat_cmp b (pairs tables) ≡ true → below_all nat_cmp a (pairs tables) ≡ true
      lower a b [] h g = refl
      lower a b (t ∷ tables) h g = (let p = and_parts _ _ g in and_from _ _ (more a b t.number h p.0) (lower a b tables h p.1))

placed_of : (tables : List NumberedTable) (number : ℕ) (v : PlacedTable) → AllByRecursion (λ (t : NumberedTable). IsPlaced t.table) tables → table_of tables number ≡ Some v → IsPlaced v
placed_of [] number v all e = absurd cc
placed_of (t ∷ tables) number v all e = at (placed_of tables number v) (t.number == number) e where
  at : (AllByRecursion (λ (t : NumberedTable). IsPlaced t.table) tables → table_of tables number ≡ Some v → IsPlaced v) → (b : Bool) → cond b (Some t.table) (table_of tables number) ≡ Some v → IsPlaced v
  at rest true f = (let same : t.table ≡ v = cc in subst IsPlaced same all.0)
  at rest false f = rest all.1 f

-- the records stand for one catalog at most
pub one_catalog : OneText → (tables : Tables) (c d : Catalog) → StandsFor tables c → StandsFor tables d → c ≡ d
one_catalog one tables c d s t =
    let x = (numbers_sorted 0 s.numbered (ap (λ (k : Catalog). numbers_rise 0 k.tables) s.shows ∙ s.valid.numbers)).0 in
    let y = (numbers_sorted 0 t.numbered (ap (λ (k : Catalog). numbers_rise 0 k.tables) t.shows ∙ t.valid.numbers)).0 in
    let u : T (is_sorted nat_cmp (pairs s.numbered)) = subst T (sym x) tt in
    let w : T (is_sorted nat_cmp (pairs t.numbered)) = subst T (sym y) tt in
    let maps : from_sorted {R = nat_cmp} (pairs s.numbered) ≡ from_sorted (pairs t.numbered) =
    same_map nat_cmp_total nat_cmp-IsAntisymmetric (from_sorted (pairs s.numbered)) (from_sorted (pairs t.numbered)) (λ n.
    get-from_sorted nat_cmp (pairs s.numbered) n u ∙ find_table s.numbered n ∙ same n (table_of s.numbered n) (table_of t.numbered n) refl refl
    ∙ sym (find_table t.numbered n) ∙ sym (get-from_sorted nat_cmp (pairs t.numbered) n w)) in
    let lists : pairs s.numbered ≡ pairs t.numbered = sym (entries-from_sorted nat_cmp (pairs s.numbered) u) ∙ ap entries maps ∙ entries-from_sorted nat_cmp (pairs t.numbered) w in
    let numbered : s.numbered ≡ t.numbered = sym (tables_back s.numbered) ∙ ap (map (λ (t : ℕ × PlacedTable). record { number = t.0; table = t.1 })) lists ∙ tables_back t.numbered in
    sym s.shows ∙ ap catalog_of numbered ∙ t.shows where
      of_s : (n : ℕ) (o : Option PlacedTable) → table_of s.numbered n ≡ o → (q : ShadowKey) → q.table ≡ n → get tables q ≡ record_in o q
      of_s n o e q same = s.holds q ∙ ap (λ k. record_in k q) (ap (table_of s.numbered) same ∙ e)

      of_t : (n : ℕ) (o : Option PlacedTable) → table_of t.numbered n ≡ o → (q : ShadowKey) → q.table ≡ n → get tables q ≡ record_in o q
      of_t n o e q same = t.holds q ∙ ap (λ k. record_in k q) (ap (table_of t.numbered) same ∙ e)

      some_none : (xs : List ℕ) → Some xs ≡ None → ⊥
      some_none xs e = cc

      same : (n : ℕ) (o p : Option PlacedTable) → table_of s.numbered n ≡ o → table_of t.numbered n ≡ p → o ≡ p
      same n None None e f = refl
      same n (Some v) None e f = absurd (some_none _ (sym (of_s n (Some v) e (key_of n 1 (pos 1) (pos 0)) refl) ∙ of_t n None f (key_of n 1 (pos 1) (pos 0)) refl))
      same n None (Some w) e f = absurd (some_none _ (sym (of_t n (Some w) f (key_of n 1 (pos 1) (pos 0)) refl) ∙ of_s n None e (key_of n 1 (pos 1) (pos 0)) refl))
      same n (Some v) (Some w) e f = ap Some (one_table one n v w (get tables) (placed_of s.numbered n v s.placed e) (placed_of t.numbered n w t.placed f) (of_s n (Some v) e) (of_t n (Some w) f))
