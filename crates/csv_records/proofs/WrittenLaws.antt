-- Good records that are written are read back.
use Rattle.std.proofs.Common.{◌≡◌, ◌≢◌, ◌++◌, ◌∷◌, ◌∙◌, [], ℕ, List, Some, length, true, false, refl, sym}
use Rattle.std.specs.Prelude.{◌==◌}
use Rattle.std.specs.List.{list_all}
use Rattle.std.proofs.lemmas.Bool.{and_parts, eqb-true, ne_eqb}
use Rattle.csv.specs.Machine.{next_record}
use Rattle.csv.specs.Reading.{Reached, default_config, strip_bom}
use Rattle.csv.specs.declared.parser.State.TheVariants as st
use Rattle.csv.proofs.RoundTrip.{read-write}
use Rattle.csv_records.specs.Records.{Fields, all_records, first_width, good_records, is_good, is_refused}
use Rattle.csv_records.specs.Written.{record_text, written}
use Rattle.csv_records.proofs.GoodLaws.{good_all}
use Rattle.csv_records.proofs.Reaching.{read_all}

-- a record of some fields is read as itself
one_back : (width : ℕ) (row : Fields) (tail : List ℕ) → width ≢ 0 → is_good width row ≡ true
    → next_record default_config st.StartRecord [] [] (record_text row ++ tail) ≡ Some (row, st.StartRecord, tail)
one_back width [] tail some good =
    let none : 0 ≡ width = eqb-true 0 width (and_parts (0 == width) true good).0 in
    absurd (some (sym none))
one_back width (field ∷ row) tail some good = read-write (field ∷ row) tail

reached_back : (width : ℕ) (rows : List Fields) → width ≢ 0 → list_all (is_good width) rows ≡ true
    → Reached default_config st.StartRecord (written rows) rows st.StartRecord []
unfolding Reached
reached_back width [] some good = (refl, refl)
reached_back width (row ∷ rows) some good =
    let parts = and_parts (is_good width row) (list_all (is_good width) rows) good in
    ((row, st.StartRecord, written rows), one_back width row (written rows) some parts.0, refl, reached_back width rows some parts.1)

all_back : (rows : List Fields) → list_all (is_good (first_width rows)) rows ≡ true → first_width rows ≢ 0
    → strip_bom (written rows) ≡ written rows → all_records (written rows) ≡ rows
unfolding next_record
all_back rows good some plain = rw plain (read_all (written rows) rows st.StartRecord [] (reached_back (first_width rows) rows some good) refl)

pub written_back : (rows : List Fields) → list_all (is_good (first_width rows)) rows ≡ true → rows ≢ [] → first_width rows ≢ 0
    → strip_bom (written rows) ≡ written rows → (good_records (written rows) ≡ rows) × (is_refused (written rows) ≡ false)
written_back rows good there some plain =
    let all = good_all (written rows) rows good (all_back rows good some plain) in
    (sym all.0, sym all.1 ∙ ne_eqb (length rows) 0 (λ none. not_none rows there none))
  where
    not_none : (rows : List Fields) → rows ≢ [] → length rows ≡ 0 → ⊥
    not_none [] there none = there refl
    not_none (row ∷ rows) there none = absurd (cc none)
