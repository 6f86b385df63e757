-- The columns that are answered beside the key, one by one.
use Rattle.std.proofs.Common.{◌≡◌, ℕ, ◌+◌, ◌<◌, true, false, List, [], ◌∷◌, ◌++◌, ◌∙◌, sym, ap, arith, drop, get_or, map, length, if◌then◌else◌}
use Rattle.std.proofs.lemmas.List.{append_assoc, drop_more}
use Rattle.row_model.specs.ColumnNames.{other_places}
use Rattle.row_model.specs.Schemas.{is_key}
use Rattle.row_model.specs.declared.schema.Column.{Column}
use Rattle.row_model.specs.declared.schema.Place.{Place}
use Rattle.row_model.specs.declared.schema.Place.TheVariants.{Declared}

-- the places from a column on, which is the key
later_place : (n : ℕ) (column : Column) (columns : List Column) → is_key column.kind ≡ true → other_places n (column ∷ columns) ≡ other_places (n + 1) columns
later_place n column columns key = ap (λ b. if b then other_places (n + 1) columns else Declared n column.kind ∷ other_places (n + 1) columns) key

-- which is another one
own_place : (n : ℕ) (column : Column) (columns : List Column) → is_key column.kind ≡ false → other_places n (column ∷ columns) ≡ Declared n column.kind ∷ other_places (n + 1) columns
own_place n column columns other = ap (λ b. if b then other_places (n + 1) columns else Declared n column.kind ∷ other_places (n + 1) columns) other

two_more : (i : ℕ) → i + 1 + 1 ≡ i + 2
two_more i = omega arith

pub key_left_out : {A : Type 0} (f : Place → A) (planned : List A) (columns : List Column) (i : ℕ) (d : Column) → i < length columns → is_key (get_or columns i d).kind ≡ true →
    planned ++ map f (other_places (i + 1) (drop i columns)) ≡ planned ++ map f (other_places (i + 2) (drop (i + 1) columns))
key_left_out f planned columns i d within key =
    ap (λ places. planned ++ map f places)
    (ap (other_places (i + 1)) (drop_more columns i d within) ∙ later_place (i + 1) (get_or columns i d) (drop (i + 1) columns) key ∙ ap (λ n. other_places n (drop (i + 1) columns)) (two_more i))

pub other_added : {A : Type 0} (f : Place → A) (planned more : List A) (columns : List Column) (i : ℕ) (column : Column) → i < length columns → get_or columns i column ≡ column →
    is_key column.kind ≡ false → more ≡ planned ++ f (Declared (i + 1) column.kind) ∷ [] →
    planned ++ map f (other_places (i + 1) (drop i columns)) ≡ more ++ map f (other_places (i + 2) (drop (i + 1) columns))
other_added f planned more columns i column within is other added =
    ap (λ places. planned ++ map f places)
    (ap (other_places (i + 1)) (drop_more columns i column within ∙ ap (λ c. c ∷ drop (i + 1) columns) is)
    ∙ own_place (i + 1) column (drop (i + 1) columns) other
    ∙ ap (λ n. Declared (i + 1) column.kind ∷ other_places n (drop (i + 1) columns)) (two_more i))
    ∙ sym (append_assoc planned (f (Declared (i + 1) column.kind) ∷ []) (map f (other_places (i + 2) (drop (i + 1) columns))))
    ∙ ap (λ l. l ++ map f (other_places (i + 2) (drop (i + 1) columns))) (sym added)
