-- The test whether changes apply is true exactly where they apply.
use Rattle.std.proofs.Common.{◌≡◌, ℕ, true, List, [], ◌∷◌, length, Option, Some, None, refl}
use Rattle.std.specs.FinMap.{get}
use Rattle.std.proofs.lemmas.Bool.{leb-true, le-leb, and_parts, and_from}
use Rattle.vec_base.specs.declared.shadow.Change.{Change}
use Rattle.vec_base.specs.declared.shadow.Change.TheVariants.{Put, Fill, Remove, Patch}
use Rattle.shadow_records.specs.Batches.{LiesIn, Applies, AllApply, changed}
use Rattle.shadow_records.specs.Keys.{Tables}
use Rattle.journal_format.specs.Fitting.{lies_in, applies, all_apply}

test_lies : (at : ℕ) (bytes : List ℕ) (body : Option (List ℕ)) → lies_in at (length bytes) body ≡ true → LiesIn at bytes body
test_lies at bytes None e = absurd cc
test_lies at bytes (Some body) e = leb-true _ _ e

lies_test : (at : ℕ) (bytes : List ℕ) (body : Option (List ℕ)) → LiesIn at bytes body → lies_in at (length bytes) body ≡ true
lies_test at bytes None lies = absurd lies
lies_test at bytes (Some body) lies = le-leb _ _ lies

test_one : (c : Change) (tables : Tables) → applies c tables ≡ true → Applies c tables
test_one (Put key bytes) tables e = tt
test_one (Fill key count) tables e = tt
test_one (Remove key) tables e = e
test_one (Patch key at bytes) tables e = test_lies at bytes (get tables key) e

one_test : (c : Change) (tables : Tables) → Applies c tables → applies c tables ≡ true
one_test (Put key bytes) tables applies = refl
one_test (Fill key count) tables applies = refl
one_test (Remove key) tables applies = applies
one_test (Patch key at bytes) tables applies = lies_test at bytes (get tables key) applies

pub test_applies : (cs : List Change) (tables : Tables) → all_apply cs tables ≡ true → AllApply cs tables
test_applies [] tables e = tt
test_applies (c ∷ cs) tables e =
    let both = and_parts (applies c tables) (all_apply cs (changed c tables)) e in
    (test_one c tables both.0, test_applies cs (changed c tables) both.1)

pub applies_test : (cs : List Change) (tables : Tables) → AllApply cs tables → all_apply cs tables ≡ true
applies_test [] tables all = refl
applies_test (c ∷ cs) tables all = and_from (applies c tables) (all_apply cs (changed c tables)) (one_test c tables all.0) (applies_test cs (changed c tables) all.1)
