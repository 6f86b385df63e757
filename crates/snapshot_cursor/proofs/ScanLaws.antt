-- A scan goes on behind the row that came last.
use Rattle.std.proofs.Common.{◌≡◌, add-one, ℕ, zero, suc, ◌+◌, ◌-◌, ◌≤◌, ℤ, int_lt, Bool, true, false, cond, List, [], ◌∷◌, length, map, take, drop, refl, sym, ap, ◌∙◌, subst, arith, Some, None, ◌++◌}
use Rattle.std.specs.Prelude.{filter, find, ◌==◌, is_some, not}
use Rattle.std.specs.List.{list_all}
use Rattle.std.specs.Option.{option_map}
use Rattle.std.specs.Ordering.{int_eq}
use Rattle.std.specs.declared.option.Option.{Option}
use Rattle.std.proofs.lemmas.Bool.{and_parts}
use Rattle.std.proofs.lemmas.Int.{ints}
use Rattle.std.proofs.Math.Dec.{eqb-suc-zero}
use Rattle.vec_base.specs.declared.value.Value.{Value}
use Rattle.row_model.specs.Rows.{is_rising}
use Rattle.row_model.specs.declared.row.Row.{Row}
use Rattle.snapshot_cursor.specs.Scanned.{is_behind, next_row, rows_behind, values_of}
use Rattle.snapshot_cursor.specs.Left.{first_of, scan_left}
use Rattle.snapshot_cursor.specs.declared.scan.ScanPlace.{ScanPlace}

abbrev nil : {X : Type 0} → List X
nil = []

lt_trans : (a b c : ℤ) → int_lt a b ≡ true → int_lt b c ≡ true → int_lt a c ≡ true
lt_trans a b c h k = grind (arith, ints)

not_back : (a b : ℤ) → int_lt a b ≡ true → int_lt b a ≡ false
not_back a b h = grind (arith, ints)

not_self : (a : ℤ) → int_lt a a ≡ false
not_self a = grind (arith, ints)

eq_self : (a : ℤ) → int_eq a a ≡ true
eq_self a = grind (arith, ints)

not_equal : (a b : ℤ) → int_lt a b ≡ true → int_eq a b ≡ false
not_equal a b h = grind (arith, ints)

filter_all : (test : Row → Bool) (rows : List Row) → list_all test rows ≡ true → filter test rows ≡ rows
filter_all test [] h = refl
filter_all test (x ∷ xs) h = (let p = and_parts (test x) (list_all test xs) h in rw p.0 (ap (λ l. x ∷ l) (filter_all test xs p.1)))

lower : (a b : ℤ) (rows : List Row) → int_lt a b ≡ true → list_all (λ (row : Row). int_lt b row.rowid) rows ≡ true → list_all (λ (row : Row). int_lt a row.rowid) rows ≡ true
lower a b [] l h = refl
lower a b (x ∷ xs) l h = (let p = and_parts (int_lt b x.rowid) (list_all (λ (row : Row). int_lt b row.rowid) xs) h in rw (lt_trans a b x.rowid l p.0) (lower a b xs l p.1))

-- what is found among rows above a rowid is above it
found_above : (test : Row → Bool) (rowid : ℤ) (rows : List Row) (row : Row) → list_all (λ (r : Row). int_lt rowid r.rowid) rows ≡ true → find test rows ≡ Some row → int_lt rowid row.rowid ≡ true
found_above test rowid [] row h e = absurd cc
found_above test rowid (x ∷ xs) row h e = by_test (found_above test rowid xs row (and_parts (int_lt rowid x.rowid) (list_all (λ (r : Row). int_lt rowid r.rowid) xs) h).1) (test x) e where
  p : (int_lt rowid x.rowid ≡ true) × (list_all (λ (r : Row). int_lt rowid r.rowid) xs ≡ true)
  p = and_parts (int_lt rowid x.rowid) (list_all (λ (r : Row). int_lt rowid r.rowid) xs) h

  by_test : (find test xs ≡ Some row → int_lt rowid row.rowid ≡ true) → (b : Bool) → cond b (Some x) (find test xs) ≡ Some row → int_lt rowid row.rowid ≡ true
  by_test more true f = (let same : x ≡ row = cc in ap (λ (r : Row). int_lt rowid r.rowid) (sym same) ∙ p.0)
  by_test more false f = more f

pub all_rows : (rows : List Row) → rows_behind None rows ≡ rows
all_rows [] = refl
all_rows (x ∷ xs) = ap (λ l. x ∷ l) (all_rows xs)

-- all rows behind one that is behind the place
all_later : (after : Option ℤ) (x : Row) (xs : List Row) → is_behind after x ≡ true → list_all (λ (r : Row). int_lt x.rowid r.rowid) xs ≡ true → rows_behind after xs ≡ xs
all_later None x xs h all = all_rows xs
all_later (Some a) x xs h all = filter_all (λ (r : Row). int_lt a r.rowid) xs (lower a x.rowid xs h all)

-- the next row, and those behind it
pub next_behind : (after : Option ℤ) (rows : List Row) (row : Row) → is_rising rows ≡ true → next_row after rows ≡ Some row → rows_behind after rows ≡ row ∷ rows_behind (Some row.rowid) rows
next_behind after [] row rising e = absurd cc
next_behind after (x ∷ xs) row rising e = by_test (next_behind after xs row (and_parts (list_all (λ (r : Row). int_lt x.rowid r.rowid) xs) (is_rising xs) rising).1) (is_behind after x) refl e where
  p : (list_all (λ (r : Row). int_lt x.rowid r.rowid) xs ≡ true) × (is_rising xs ≡ true)
  p = and_parts (list_all (λ (r : Row). int_lt x.rowid r.rowid) xs) (is_rising xs) rising

  by_test : (next_row after xs ≡ Some row → rows_behind after xs ≡ row ∷ rows_behind (Some row.rowid) xs) → (b : Bool) → is_behind after x ≡ b → cond b (Some x) (find (is_behind after) xs) ≡ Some row →
      rows_behind after (x ∷ xs) ≡ row ∷ rows_behind (Some row.rowid) (x ∷ xs)
  by_test more true is f =
      let same : x ≡ row = cc in
      let rest : rows_behind (Some x.rowid) (x ∷ xs) ≡ xs = rw (not_self x.rowid) (filter_all (λ (r : Row). int_lt x.rowid r.rowid) xs p.0) in
      rw is (ap (λ l. x ∷ l) (all_later after x xs is p.0 ∙ sym rest) ∙ ap (λ (r : Row). r ∷ rows_behind (Some r.rowid) (x ∷ xs)) same)
  by_test more false is f =
      let above = found_above (is_behind after) x.rowid xs row p.0 f in
      rw (is, not_back x.rowid row.rowid above) (more f)

pub none_behind : (after : Option ℤ) (rows : List Row) → next_row after rows ≡ None → rows_behind after rows ≡ []
none_behind after [] e = refl
none_behind after (x ∷ xs) e = by_test (none_behind after xs) (is_behind after x) refl e where
  by_test : (next_row after xs ≡ None → rows_behind after xs ≡ []) → (b : Bool) → is_behind after x ≡ b → cond b (Some x) (find (is_behind after) xs) ≡ None → rows_behind after (x ∷ xs) ≡ []
  by_test more true is f = absurd cc
  by_test more false is f = rw is (more f)

-- the row that is found is the one of its rowid
pub own_values : (after : Option ℤ) (rows : List Row) (row : Row) → is_rising rows ≡ true → next_row after rows ≡ Some row → values_of row.rowid rows ≡ Some row.values
own_values after [] row rising e = absurd cc
own_values after (x ∷ xs) row rising e = by_test (own_values after xs row (and_parts (list_all (λ (r : Row). int_lt x.rowid r.rowid) xs) (is_rising xs) rising).1) (is_behind after x) e where
  p : (list_all (λ (r : Row). int_lt x.rowid r.rowid) xs ≡ true) × (is_rising xs ≡ true)
  p = and_parts (list_all (λ (r : Row). int_lt x.rowid r.rowid) xs) (is_rising xs) rising

  by_test : (next_row after xs ≡ Some row → values_of row.rowid xs ≡ Some row.values) → (b : Bool) → cond b (Some x) (find (is_behind after) xs) ≡ Some row → values_of row.rowid (x ∷ xs) ≡ Some row.values
  by_test more true f = (let same : x ≡ row = cc in subst (λ (r : Row). values_of r.rowid (x ∷ xs) ≡ Some r.values) same (rw (eq_self x.rowid) refl))
  by_test more false f = rw (not_equal x.rowid row.rowid (found_above (is_behind after) x.rowid xs row p.0 f)) (more f)

-- ---- places of scans

the_row : (rows : List Row) (after : Option ℤ) (rowid : ℤ) → Some rowid ≡ option_map (λ (r : Row). r.rowid) (next_row after rows) → (row : Row) × ((next_row after rows ≡ Some row) × (row.rowid ≡ rowid))
the_row rows after rowid e = at (next_row after rows) refl e where
  at : (o : Option Row) → next_row after rows ≡ o → Some rowid ≡ option_map (λ (r : Row). r.rowid) o → (row : Row) × ((next_row after rows ≡ Some row) × (row.rowid ≡ rowid))
  at None is f = absurd cc
  at (Some row) is f = (row, (is, cc))

no_row : (rows : List Row) (after : Option ℤ) → None ≡ option_map (λ (r : Row). r.rowid) (next_row after rows) → next_row after rows ≡ None
no_row rows after e = at (next_row after rows) e where
  at : (o : Option Row) → None ≡ option_map (λ (r : Row). r.rowid) o → o ≡ None
  at None f = refl
  at (Some row) f = absurd cc

first_taken : (n : ℕ) (x : List Value) (xs : List (List Value)) → (n ≡ 0 → ⊥) → first_of (take n (x ∷ xs)) ≡ Some x
first_taken zero x xs some = absurd (some refl)
first_taken (suc n) x xs some = refl

rest_taken : (n : ℕ) (x : List Value) (xs : List (List Value)) → (n ≡ 0 → ⊥) → take (n - 1) xs ≡ drop 1 (take n (x ∷ xs))
rest_taken zero x xs some = absurd (some refl)
rest_taken (suc n) x xs some = (let less : suc n - 1 ≡ n = omega arith in ap (λ k. take k xs) less)

some_taken : (n : ℕ) (x : List Value) (xs : List (List Value)) → (n ≡ 0 → ⊥) → (length (take n (x ∷ xs)) == 0) ≡ false
some_taken zero x xs some = absurd (some refl)
some_taken (suc n) x xs some = eqb-suc-zero (length (take n xs))

none_taken : {X : Type 0} (n : ℕ) → take n (nil {X = X}) ≡ nil {X = X}
none_taken zero = refl
none_taken (suc n) = refl

-- what a row that comes next says of the rows that are left
pub record Comes (place : ScanPlace) (rowid : ℤ) (rows : List Row) : Type 0 where
  pub row : Row
  pub values : values_of rowid rows ≡ Some row.values
  pub first : first_of (scan_left place rows) ≡ Some row.values
  pub rest : scan_left (record { after = Some rowid; left = place.left - 1 }) rows ≡ drop 1 (scan_left place rows)
  pub some : (length (scan_left place rows) == 0) ≡ false

the_row-is : (place : ScanPlace) (rowid : ℤ) (rows : List Row) (row : Row) → (place.left ≡ 0 → ⊥) → is_rising rows ≡ true → next_row place.after rows ≡ Some row → row.rowid ≡ rowid → Comes place rowid rows
the_row-is place rowid rows row some rising is own =
    let more : List (List Value) = map (λ (r : Row). r.values) (rows_behind (Some rowid) rows) in
    let left : map (λ (r : Row). r.values) (rows_behind place.after rows) ≡ row.values ∷ more =
    ap (λ l. map (λ (r : Row). r.values) l) (next_behind place.after rows row rising is ∙ ap (λ i. row ∷ rows_behind (Some i) rows) own) in
    record {
      row = row;
      values = ap (λ i. values_of i rows) (sym own) ∙ own_values place.after rows row rising is;
      first = ap (λ l. first_of (take place.left l)) left ∙ first_taken place.left row.values more some;
      rest = rest_taken place.left row.values more some ∙ ap (λ l. drop 1 (take place.left l)) (sym left);
      some = ap (λ l. length (take place.left l) == 0) left ∙ some_taken place.left row.values more some;
    }

pub comes : (place : ScanPlace) (rowid : ℤ) (rows : List Row) → (place.left ≡ 0 → ⊥) → is_rising rows ≡ true → Some rowid ≡ option_map (λ (r : Row). r.rowid) (next_row place.after rows) → Comes place rowid rows
comes place rowid rows some rising e = (let found = the_row rows place.after rowid e in the_row-is place rowid rows found.0 some rising found.1.0 found.1.1)

-- no row comes next
pub ends : (place : ScanPlace) (rows : List Row) → None ≡ option_map (λ (r : Row). r.rowid) (next_row place.after rows) → scan_left place rows ≡ []
ends place rows e = ap (λ l. take place.left (map (λ (r : Row). r.values) l)) (none_behind place.after rows (no_row rows place.after e)) ∙ none_taken place.left

pub spent : (place : ScanPlace) (rows : List Row) → place.left ≡ 0 → scan_left place rows ≡ []
spent place rows e = ap (λ n. take n (map (λ (r : Row). r.values) (rows_behind place.after rows))) e

pub ended : (place : ScanPlace) (rows : List Row) → scan_left place rows ≡ [] → scan_left (record { after = place.after; left = 0 }) rows ≡ drop 1 (scan_left place rows)
ended place rows e = sym (ap (λ l. drop 1 l) e)

-- the values of the row that comes next are the first of those that are left
pub given : (place : ScanPlace) (rowid : ℤ) (rows : List Row) (values : List Value) → (place.left ≡ 0 → ⊥) → is_rising rows ≡ true → Some rowid ≡ option_map (λ (r : Row). r.rowid) (next_row place.after rows) →
    ((own : List Value) → values_of rowid rows ≡ Some own → values ≡ own) → Some values ≡ first_of (scan_left place rows)
given place rowid rows values some rising e is = (let c = comes place rowid rows some rising e in ap Some (is c.row.values c.values) ∙ sym c.first)

-- whether a row comes next
pub end_is : (place : ScanPlace) (rows : List Row) (next : Option ℤ) (none : Bool) → (place.left ≡ 0 → ⊥) → is_rising rows ≡ true → next ≡ option_map (λ (r : Row). r.rowid) (next_row place.after rows) → is_some next ≡ not none →
    none ≡ (length (scan_left place rows) == 0)
end_is place rows None none some rising e is = negated none (sym is) ∙ ap (λ l. length l == 0) (sym (ends place rows e)) where
  negated : (b : Bool) → not b ≡ false → b ≡ true
  negated true h = refl
  negated false h = absurd cc
end_is place rows (Some rowid) none some rising e is = negated none (sym is) ∙ sym (comes place rowid rows some rising e).some where
  negated : (b : Bool) → not b ≡ true → b ≡ false
  negated true h = absurd cc
  negated false h = refl

-- ---- runs of rows

none_dropped : {X : Type 0} (n : ℕ) → drop n (nil {X = X}) ≡ nil {X = X}
none_dropped zero = refl
none_dropped (suc n) = refl

drop_next : {X : Type 0} (n : ℕ) (xs : List X) → drop 1 (drop n xs) ≡ drop (suc n) xs
drop_next zero xs = refl
drop_next {X = X} (suc n) [] = none_dropped {X = X} 1
drop_next (suc n) (x ∷ xs) = drop_next n xs

pub drop_more : {X : Type 0} (n : ℕ) (xs : List X) → drop 1 (drop n xs) ≡ drop (n + 1) xs
drop_more n xs = drop_next n xs ∙ ap (λ k. drop k xs) (sym (add-one n))

-- one row more of a run
take_next : {X : Type 0} (n : ℕ) (all : List X) (x : X) (rest : List X) → drop n all ≡ x ∷ rest → take n all ++ x ∷ [] ≡ take (suc n) all
take_next zero [] x rest e = absurd cc
take_next zero (y ∷ ys) x rest e = (let same : x ≡ y = cc in ap (λ z. z ∷ []) same)
take_next (suc n) [] x rest e = absurd cc
take_next (suc n) (y ∷ ys) x rest e = ap (λ l. y ∷ l) (take_next n ys x rest e)

pub take_more : {X : Type 0} (n : ℕ) (all : List X) (x : X) (rest : List X) → drop n all ≡ x ∷ rest → take n all ++ x ∷ [] ≡ take (n + 1) all
take_more n all x rest e = take_next n all x rest e ∙ ap (λ k. take k all) (sym (add-one n))

pub take_end : {X : Type 0} (n m : ℕ) (all : List X) → n ≤ m → drop n all ≡ [] → take n all ≡ take m all
take_end n m [] le e = none_taken n ∙ sym (none_taken m)
take_end zero m (y ∷ ys) le e = absurd cc
take_end (suc n) zero (y ∷ ys) le e = absurd (omega arith)
take_end (suc n) (suc m) (y ∷ ys) le e = ap (λ l. y ∷ l) (take_end n m ys (omega arith) e)

the_first : (l : List (List Value)) (x : List Value) → Some x ≡ first_of l → l ≡ x ∷ drop 1 l
the_first [] x e = absurd cc
the_first (y ∷ ys) x e = (let same : y ≡ x = cc in ap (λ z. z ∷ ys) same)

the_none : (l : List (List Value)) → None ≡ first_of l → l ≡ []
the_none [] e = refl
the_none (y ∷ ys) e = absurd cc

-- a row more is taken from the rows that are left of a scan
pub taken_more : (all : List (List Value)) (n : ℕ) (now : List (List Value)) (x : List Value) → now ≡ drop n all → Some x ≡ first_of now → take n all ++ x ∷ [] ≡ take (n + 1) all
taken_more all n now x is first = take_more n all x (drop 1 now) (sym is ∙ the_first now x first)

pub taken_all : (all : List (List Value)) (n m : ℕ) (now : List (List Value)) → n ≤ m → now ≡ drop n all → None ≡ first_of now → take n all ≡ take m all
taken_all all n m now le is first = take_end n m all le (sym is ∙ the_none now first)

-- ---- the next place

pub ends_by : (place : ScanPlace) (rows : List Row) (next : Option ℤ) → next ≡ option_map (λ (r : Row). r.rowid) (next_row place.after rows) → is_some next ≡ false → scan_left place rows ≡ []
ends_by place rows None e none = ends place rows e
ends_by place rows (Some rowid) e none = absurd cc

pub goes_on : (place : ScanPlace) (rows : List Row) (next : Option ℤ) → (place.left ≡ 0 → ⊥) → is_rising rows ≡ true → next ≡ option_map (λ (r : Row). r.rowid) (next_row place.after rows) → is_some next ≡ true →
    scan_left (record { after = next; left = place.left - 1 }) rows ≡ drop 1 (scan_left place rows)
goes_on place rows None some rising e there = absurd cc
goes_on place rows (Some rowid) some rising e there = (comes place rowid rows some rising e).rest
