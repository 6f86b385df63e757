-- Good records one after another, and the first that is refused.
use Rattle.std.proofs.Common.{◌≡◌, ◌++◌, ◌∷◌, ◌∙◌, [], ℕ, List, Bool, length, true, false, Some, None, refl, sym, ap, subst, arith, suc}
use Rattle.std.specs.Prelude.{◌+◌, ◌==◌, if◌then◌else◌, take}
use Rattle.std.specs.List.{list_all, prefix_len, take_while}
use Rattle.std.proofs.lemmas.Bool.{and_from, and_parts, and_right}
use Rattle.csv_records.specs.Records.{Fields, all_records, first_width, good_records, is_good, is_good_behind, is_refused}

-- the records are good
abbrev pub are_good : List Fields → Bool
are_good rows = list_all (is_good (first_width rows)) rows

-- ---- lists that pass a test

all_behind : (p : Fields → Bool) (xs : List Fields) (y : Fields) → list_all p xs ≡ true → p y ≡ true → list_all p (xs ++ y ∷ []) ≡ true
all_behind p [] y h e = and_from (p y) true e refl
all_behind p (x ∷ xs) y h e =
    let parts = and_parts (p x) (list_all p xs) h in and_from (p x) (list_all p (xs ++ y ∷ [])) parts.0 (all_behind p xs y parts.1 e)

one_taken : (p : Fields → Bool) (x : Fields) (xs : List Fields) → p x ≡ true → take_while p (x ∷ xs) ≡ x ∷ take_while p xs
one_taken p x xs e =
    let next : suc (prefix_len p xs) ≡ 1 + prefix_len p xs = omega arith in
    rw e (subst (λ n. take n (x ∷ xs) ≡ x ∷ take_while p xs) next refl)

none_taken : (p : Fields → Bool) (x : Fields) (xs : List Fields) → p x ≡ false → take_while p (x ∷ xs) ≡ []
none_taken p x xs e = rw e refl

all_taken : (p : Fields → Bool) (xs : List Fields) → list_all p xs ≡ true → take_while p xs ≡ xs
all_taken p [] h = refl
all_taken p (x ∷ xs) h =
    let parts = and_parts (p x) (list_all p xs) h in one_taken p x xs parts.0 ∙ ap (λ (t : List Fields). x ∷ t) (all_taken p xs parts.1)

first_taken : (p : Fields → Bool) (xs : List Fields) (y : Fields) (more : List Fields) → list_all p xs ≡ true → p y ≡ false
    → take_while p ((xs ++ y ∷ []) ++ more) ≡ xs
first_taken p [] y more h e = none_taken p y more e
first_taken p (x ∷ xs) y more h e =
    let parts = and_parts (p x) (list_all p xs) h in
    one_taken p x ((xs ++ y ∷ []) ++ more) parts.0 ∙ ap (λ (t : List Fields). x ∷ t) (first_taken p xs y more parts.1 e)

some_fails : (p : Fields → Bool) (xs : List Fields) (y : Fields) (more : List Fields) → p y ≡ false → list_all p ((xs ++ y ∷ []) ++ more) ≡ false
some_fails p [] y more e = rw e refl
some_fails p (x ∷ xs) y more e = and_right (p x) (list_all p ((xs ++ y ∷ []) ++ more)) (some_fails p xs y more e)

-- ---- records

width_kept : (rows : List Fields) (row : Fields) (more : List Fields) → first_width ((rows ++ row ∷ []) ++ more) ≡ first_width (rows ++ row ∷ [])
width_kept [] row more = refl
width_kept (first ∷ rows) row more = refl

-- good records are good by the width that a record behind them shows
good_by : (rows : List Fields) (row : Fields) → are_good rows ≡ true → list_all (is_good (first_width (rows ++ row ∷ []))) rows ≡ true
good_by [] row h = refl
good_by (first ∷ rows) row h = h

pub good_more : (rows : List Fields) (row : Fields) → are_good rows ≡ true → is_good_behind rows row ≡ true → are_good (rows ++ row ∷ []) ≡ true
good_more rows row h e = all_behind (is_good (first_width (rows ++ row ∷ []))) rows row (good_by rows row h) e

-- all records are good
pub good_all : (text : List ℕ) (rows : List Fields) → are_good rows ≡ true → all_records text ≡ rows
    → (rows ≡ good_records text) × ((length rows == 0) ≡ is_refused text)
good_all text rows h all = rw (all, h) (sym (all_taken (is_good (first_width rows)) rows h), refl)

-- the record behind good ones is refused
pub good_then_refused : (text : List ℕ) (rows : List Fields) (row : Fields) (more : List Fields) → are_good rows ≡ true
    → is_good_behind rows row ≡ false → all_records text ≡ (rows ++ row ∷ []) ++ more
    → (rows ≡ good_records text) × (true ≡ is_refused text)
good_then_refused text rows row more h e all =
    rw (all, width_kept rows row more, some_fails (is_good (first_width (rows ++ row ∷ []))) rows row more e)
    (sym (first_taken (is_good (first_width (rows ++ row ∷ []))) rows row more (good_by rows row h) e), refl)

-- ---- what is taken behind good records

pub taken : (good : Bool) (row fields : Fields) → Some fields ≡ (if good then Some row else None) → (good ≡ true) × (fields ≡ row)
taken true row fields e = (refl, cc e)
taken false row fields e = absurd (cc e)

pub not_taken : (good : Bool) (row : Fields) → None ≡ (if good then Some row else None) → good ≡ false
not_taken true row e = absurd (cc e)
not_taken false row e = refl
