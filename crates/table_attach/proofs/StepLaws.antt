-- One record that is taken or refused, and the records behind it.
use Rattle.std.proofs.Common.{◌≡◌, add-one, ℕ, zero, suc, ◌+◌, ◌<◌, true, false, List, [], ◌∷◌, length, drop, take, get_or, sym, ap, ◌∙◌, subst, arith, inl, inr, Some}
use Rattle.std.specs.List.{AllByRecursion}
use Rattle.vec_base.specs.declared.shadow.ShadowKey.{ShadowKey}
use Rattle.shadow_records.specs.PlacedTables.{PlacedRow, PlacedTable}
use Rattle.table_version.specs.PlacedRows.{table_with}
use Rattle.table_version.specs.Placing.{FitsBeside}
use Rattle.table_attach.specs.Attaching.{Records}
use Rattle.table_attach.specs.inner.Filling.{Fails, Fills, Refuses, Takes, is_row_key, row_shown}

pub row_taken : (number : ℕ) (records : Records) (table : PlacedTable) (r : ShadowKey × List ℕ) (row : PlacedRow) (new : PlacedTable) → is_row_key number r.0 ≡ true → row_shown number records table r ≡ Some row →
    FitsBeside table row → new ≡ table_with table row → Takes number records table r new
row_taken number records table r row new key shown fits is = record {
  other = λ h. (let never : true ≡ false = sym key ∙ h in absurd cc);
  taken = λ h. record { row = row; shown = shown; fits = fits; table_is = is };
}

pub row_refused : (number : ℕ) (records : Records) (table : PlacedTable) (r : ShadowKey × List ℕ) (row : PlacedRow) → is_row_key number r.0 ≡ true → row_shown number records table r ≡ Some row →
    (FitsBeside table row → ⊥) → Refuses number records table r
row_refused number records table r row key shown never = record {
  key = key;
  refused = λ other is fits. (let same : row ≡ other = one row other (sym shown ∙ is) in never (subst (λ z. FitsBeside table z) (sym same) fits));
} where
  one : (a b : PlacedRow) → Some a ≡ Some b → a ≡ b
  one a b e = cc

-- a record and those behind it
pub drop_next : (records : Records) (k : ℕ) (r d : ShadowKey × List ℕ) → k < length records → r ≡ get_or records k d → drop k records ≡ r ∷ drop (k + 1) records
drop_next [] k r d lt is = absurd (omega arith)
drop_next (x ∷ xs) zero r d lt is = ap (λ z. z ∷ xs) (sym is)
drop_next (x ∷ xs) (suc k) r d lt is =
    drop_next xs k r d (omega (arith, lt)) is ∙ ap (λ n. r ∷ drop n xs) (add-one k) ∙ sym (ap (λ n. r ∷ drop n (x ∷ xs)) (add-one (suc k)))

pub fills_next : (number : ℕ) (records : Records) (table middle new : PlacedTable) (rest more : Records) (r : ShadowKey × List ℕ) → rest ≡ r ∷ more → Takes number records table r middle → Fills number records middle more new →
    Fills number records table rest new
fills_next number records table middle new rest more r is takes fills = subst (λ z. Fills number records table z new) (sym is) (middle, (takes, fills))

pub fails_later : (number : ℕ) (records : Records) (table middle : PlacedTable) (rest more : Records) (r : ShadowKey × List ℕ) → rest ≡ r ∷ more → Takes number records table r middle → Fails number records middle more →
    Fails number records table rest
fails_later number records table middle rest more r is takes fails = subst (λ z. Fails number records table z) (sym is) (inr (middle, (takes, fails)))

pub fails_here : (number : ℕ) (records : Records) (table : PlacedTable) (rest more : Records) (r : ShadowKey × List ℕ) → rest ≡ r ∷ more → Refuses number records table r → Fails number records table rest
fails_here number records table rest more r is refuses = subst (λ z. Fails number records table z) (sym is) (inl refuses)

-- what holds of all records holds of each
pub all_at : (P : ShadowKey × List ℕ → Type 0) (records : Records) (k : ℕ) (r d : ShadowKey × List ℕ) → AllByRecursion P records → k < length records → r ≡ get_or records k d → P r
all_at P [] k r d all lt is = absurd (omega arith)
all_at P (x ∷ xs) zero r d all lt is = subst P (sym is) all.0
all_at P (x ∷ xs) (suc k) r d all lt is = all_at P xs k r d all.1 (omega (arith, lt)) is

-- and of the first ones and the next one of one more
all_next : (P : ShadowKey × List ℕ → Type 0) (records : Records) (k : ℕ) (r d : ShadowKey × List ℕ) → AllByRecursion P (take k records) → k < length records → r ≡ get_or records k d → P r → AllByRecursion P (take (suc k) records)
all_next P [] k r d all lt is own = absurd (omega arith)
all_next P (x ∷ xs) zero r d all lt is own = (subst P is own, tt)
all_next P (x ∷ xs) (suc k) r d all lt is own = (all.0, all_next P xs k r d all.1 (omega (arith, lt)) is own)

pub all_more : (P : ShadowKey × List ℕ → Type 0) (records : Records) (k : ℕ) (r d : ShadowKey × List ℕ) → AllByRecursion P (take k records) → k < length records → r ≡ get_or records k d → P r → AllByRecursion P (take (k + 1) records)
all_more P records k r d all lt is own = subst (λ n. AllByRecursion P (take n records)) (sym (add-one k)) (all_next P records k r d all lt is own)
