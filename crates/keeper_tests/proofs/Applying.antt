-- The batches of the tests can be made.
use Rattle.std.proofs.Common.{◌≡◌, ℕ, List, [], ◌∷◌, Option, Some, IsSome, refl, sym, ◌∙◌, subst, lit≤}
use Rattle.std.specs.FinMap.{get, insert, get-insert, get-from_entries}
use Rattle.shadow_records.specs.Batches.{LiesIn, AllApply, patched_in}
use Rattle.shadow_records.specs.Keys.{Tables}
use Rattle.shadow_records.proofs.KeyLaws.{key_total}
use Rattle.shadow_keeper.specs.Keeping.{tables_of}
use Rattle.keeper_tests.specs.Batches.{first_key, second_key, third_key, all_kinds, three_records, later_changes}

lies_in : (at : ℕ) (bytes body : List ℕ) (found : Option (List ℕ)) → found ≡ Some body → LiesIn at bytes (Some body) → LiesIn at bytes found
lies_in at bytes body found e within = let P : Option (List ℕ) → Type 0 = λ o. LiesIn at bytes o in subst P (sym e) within

is_there : (body : List ℕ) (found : Option (List ℕ)) → found ≡ Some body → IsSome found
is_there body found e = let P : Option (List ℕ) → Type 0 = λ o. IsSome o in subst P (sym e) refl

pub all_kinds_apply : (tables : Tables) → AllApply all_kinds tables
all_kinds_apply tables =
    let one : Tables = insert tables first_key (1 ∷ 2 ∷ 3 ∷ 4 ∷ []) in
    let two : Tables = insert one second_key (0 ∷ 0 ∷ []) in
    let three : Tables = patched_in two first_key 1 (9 ∷ 8 ∷ []) (get two first_key) in
    let found : get two first_key ≡ Some (1 ∷ 2 ∷ 3 ∷ 4 ∷ []) = get-insert key_total one second_key (0 ∷ 0 ∷ []) first_key ∙ get-insert key_total tables first_key (1 ∷ 2 ∷ 3 ∷ 4 ∷ []) first_key in
    let within = lies_in 1 (9 ∷ 8 ∷ []) (1 ∷ 2 ∷ 3 ∷ 4 ∷ []) (get two first_key) found (lit≤ tt) in
    let there = is_there (7 ∷ []) (get (insert three third_key (7 ∷ [])) third_key) (get-insert key_total three third_key (7 ∷ []) third_key) in
    (tt, (tt, (within, (tt, (there, tt)))))

found_second : get (tables_of three_records) second_key ≡ Some (2 ∷ 3 ∷ [])
found_second = get-from_entries key_total three_records second_key

found_first : get (tables_of three_records) first_key ≡ Some (1 ∷ [])
found_first = get-from_entries key_total three_records first_key

patched_first : (found : Option (List ℕ)) → found ≡ Some (2 ∷ 3 ∷ []) → IsSome (get (patched_in (tables_of three_records) second_key 0 (5 ∷ []) found) first_key)
patched_first found e =
    let P : Option (List ℕ) → Type 0 = λ o. IsSome (get (patched_in (tables_of three_records) second_key 0 (5 ∷ []) o) first_key) in
    subst P (sym e) (is_there (1 ∷ []) _ (get-insert key_total (tables_of three_records) second_key (5 ∷ 3 ∷ []) first_key ∙ found_first))

pub later_apply : AllApply later_changes (tables_of three_records)
later_apply =
    let within = lies_in 0 (5 ∷ []) (2 ∷ 3 ∷ []) (get (tables_of three_records) second_key) found_second (lit≤ tt) in
    (within, (patched_first (get (tables_of three_records) second_key) found_second, tt))
