-- How many rows a source has, counted one after another.
use Rattle.std.proofs.Common.{◌≡◌, ℕ, zero, suc, ◌+◌, ◌≤◌, ℤ, true, List, [], ◌∷◌, length, map, take, refl, sym, ap, ◌∙◌, subst, arith, Option, Some, None}
use Rattle.std.specs.Option.{option_map}
use Rattle.std.proofs.lemmas.List.{length-map, length-take}
use Rattle.row_model.specs.Rows.{is_rising}
use Rattle.row_model.specs.declared.row.Row.{Row}
use Rattle.snapshot_cursor.specs.Scanned.{next_row, rows_behind}
use Rattle.snapshot_cursor.proofs.ScanLaws.{all_rows, next_behind, none_behind}
use Rattle.table_query.proofs.FindLaws.{mapped_none, mapped_some}

abbrev rowid_in : Row → ℤ
rowid_in row = row.rowid

-- so many were counted, up to the place
abbrev pub IsCounted : List Row → Option ℤ → ℕ → Type 0
IsCounted rows after count = length (rows_behind after rows) + count ≡ length rows

pub none_counted : (rows : List Row) → IsCounted rows None 0
none_counted rows = (let all : length (rows_behind None rows) ≡ length rows = ap length (all_rows rows) in omega (arith, all))

pub one_counted : (rows : List Row) (after : Option ℤ) (rowid : ℤ) (count : ℕ) → is_rising rows ≡ true → option_map (λ (row : Row). row.rowid) (next_row after rows) ≡ Some rowid → IsCounted rows after count →
    IsCounted rows (Some rowid) (count + 1)
one_counted rows after rowid count rising found counted =
    let from = mapped_some rowid_in (next_row after rows) rowid found in
    let behind : length (rows_behind after rows) ≡ suc (length (rows_behind (Some from.0.rowid) rows)) = ap length (next_behind after rows from.0 rising from.1.0) in
    subst (λ (i : ℤ). IsCounted rows (Some i) (count + 1)) from.1.1 (omega (arith, behind, counted))

pub next_counted : (rows : List Row) (after found : Option ℤ) (count : ℕ) → is_rising rows ≡ true → found ≡ option_map (λ (row : Row). row.rowid) (next_row after rows) → (found ≡ None → ⊥) → IsCounted rows after count →
    IsCounted rows found (count + 1)
next_counted rows after None count rising is some counted = absurd (some refl)
next_counted rows after (Some rowid) count rising is some counted = one_counted rows after rowid count rising (sym is) counted

pub all_counted : (rows : List Row) (after : Option ℤ) (count most : ℕ) → option_map (λ (row : Row). row.rowid) (next_row after rows) ≡ None → IsCounted rows after count → count ≤ most → count ≡ length (take most rows)
all_counted rows after count most found counted within =
    let none : length (rows_behind after rows) ≡ 0 = ap length (none_behind after rows (mapped_none rowid_in (next_row after rows) found)) in
    omega (arith, none, counted, within, length-take most rows)

pub most_counted : (rows : List Row) (after : Option ℤ) (count most : ℕ) → IsCounted rows after count → count ≤ most → most ≤ count → count ≡ length (take most rows)
most_counted rows after count most counted within over = omega (arith, counted, within, over, length-take most rows)

take_mapped : {A B : Type 0} (f : A → B) (n : ℕ) (xs : List A) → take n (map f xs) ≡ map f (take n xs)
take_mapped f zero xs = refl
take_mapped f (suc n) [] = refl
take_mapped f (suc n) (x ∷ xs) = ap (λ l. f x ∷ l) (take_mapped f n xs)

-- as many as there are of what is made of them
pub as_many : {A B : Type 0} (f : A → B) (n : ℕ) (xs : List A) (ys : List B) → take n (map f xs) ≡ ys → length (take n xs) ≡ length ys
as_many f n xs ys is = sym (length-map (take n xs) f) ∙ ap length (sym (take_mapped f n xs) ∙ is)
