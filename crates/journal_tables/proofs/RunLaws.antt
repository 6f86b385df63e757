-- Changes made one after the other, and the batch that they are.
use Rattle.std.proofs.Common.{◌≡◌, ℕ, ◌<◌, Bool, true, false, cond, eqb, List, [], ◌∷◌, length, Option, Some, None, refl, sym, ap, ◌∙◌, ⊎_elim, eq-eqb}
use Rattle.std.specs.Prelude.{◌&&◌}
use Rattle.std.specs.Int.{w64}
use Rattle.std.proofs.lemmas.Bool.{ne_eqb}
use Rattle.vec_base.specs.declared.shadow.Change.{Change}
use Rattle.shadow_records.specs.Batches.{changed, applied}
use Rattle.shadow_records.specs.Keys.{Tables}
use Rattle.journal_format.specs.Fields.{◌>>=◌, number_at, change_at, changes_of}
use Rattle.journal_format.specs.Fitting.{applies, all_apply}
use Rattle.journal_format.specs.Reading.{batch_of}
use Rattle.journal_format.proofs.FieldLaws.{some_is}
use Rattle.journal_format.proofs.ChangeLaws.{chosen, none_some, changes_more, changes_none}
use Rattle.journal_tables.specs.Making.{tables_after, MakesBatch}

pub after_none : (m : Tables) → tables_after [] m ≡ Some m
unfolding tables_after
after_none m = ap (λ r. r >>= λ (cs : List Change). cond (all_apply cs m) (Some (applied cs m)) None) changes_none

split : (b c : Bool) (x : Option Tables) → cond (b && c) x None ≡ cond b (cond c x None) None
split true c x = refl
split false c x = refl

abbrev no_tables : Option Tables
no_tables = None

none_both : (b : Bool) → no_tables ≡ cond b no_tables no_tables
none_both true = refl
none_both false = refl

regroup : (r : Option (List Change)) (c : Change) (m : Tables)
    → ((r >>= λ others. Some (c ∷ others)) >>= λ cs. cond (all_apply cs m) (Some (applied cs m)) None) ≡ cond (applies c m) (r >>= λ cs. cond (all_apply cs (changed c m)) (Some (applied cs (changed c m))) None) None
regroup None c m = none_both (applies c m)
regroup (Some cs) c m = split (applies c m) (all_apply cs (changed c m)) (Some (applied cs (changed c m)))

pub after_more : (bytes : List ℕ) (m : Tables) (x : Change × List ℕ) → 0 < length bytes → change_at bytes ≡ Some x → tables_after bytes m ≡ cond (applies x.0 m) (tables_after x.1 (changed x.0 m)) None
unfolding tables_after
after_more bytes m x some e =
    ap (λ r. r >>= λ (cs : List Change). cond (all_apply cs m) (Some (applied cs m)) None) (changes_more bytes some ∙ ap (λ r. r >>= λ (first : Change × List ℕ). changes_of first.1 >>= λ others. Some (first.0 ∷ others)) e)
    ∙ regroup (changes_of x.1) x.0 m

pub after_not : (bytes : List ℕ) (m : Tables) → 0 < length bytes → change_at bytes ≡ None → tables_after bytes m ≡ None
unfolding tables_after
after_not bytes m some e =
    ap (λ r. r >>= λ (cs : List Change). cond (all_apply cs m) (Some (applied cs m)) None) (changes_more bytes some ∙ ap (λ r. r >>= λ (first : Change × List ℕ). changes_of first.1 >>= λ others. Some (first.0 ∷ others)) e)

-- ---- a body

pub batch_no_number : (body : List ℕ) (n : ℕ) (m : Tables) → number_at w64 body ≡ None → batch_of body n m ≡ None
unfolding batch_of
batch_no_number body n m e = ap (λ r. r >>= λ (number : ℕ × List ℕ). changes_of number.1 >>= λ changes. cond (eqb number.0 n && all_apply changes m) (Some changes) None) e

batch_at_number : (body : List ℕ) (n : ℕ) (m : Tables) (x : ℕ × List ℕ) → number_at w64 body ≡ Some x → batch_of body n m ≡ (changes_of x.1 >>= λ changes. cond (eqb x.0 n && all_apply changes m) (Some changes) None)
unfolding batch_of
batch_at_number body n m x e = ap (λ r. r >>= λ (number : ℕ × List ℕ). changes_of number.1 >>= λ changes. cond (eqb number.0 n && all_apply changes m) (Some changes) None) e

abbrev no_batch : Option (List Change)
no_batch = None

nothing : (r : Option (List Change)) → (r >>= λ changes. no_batch) ≡ no_batch
nothing None = refl
nothing (Some x) = refl

pub batch_other_number : (body : List ℕ) (n : ℕ) (m : Tables) (x : ℕ × List ℕ) → number_at w64 body ≡ Some x → (x.0 ≡ n → ⊥) → batch_of body n m ≡ None
batch_other_number body n m x e ne =
    batch_at_number body n m x e ∙ ap (λ b. changes_of x.1 >>= λ changes. cond (b && all_apply changes m) (Some changes) None) (ne_eqb x.0 n ne) ∙ nothing (changes_of x.1)

some_made : (r : Option (List Change)) (m new : Tables) → (r >>= λ cs. cond (all_apply cs m) (Some (applied cs m)) None) ≡ Some new → (cs : List Change) × ((r >>= λ changes. cond (all_apply changes m) (Some changes) None) ≡ Some cs) × (new ≡ applied cs m)
some_made None m new e = absurd (none_some new e)
some_made (Some cs) m new e =
    ⊎_elim (λ yes. (cs, ap (λ b. cond b (Some cs) None) yes.0, sym (some_is (applied cs m) new yes.1))) (λ no. absurd (none_some new no.1)) (chosen (all_apply cs m) (Some (applied cs m)) None (Some new) e)

none_made : (r : Option (List Change)) (m : Tables) → (r >>= λ cs. cond (all_apply cs m) (Some (applied cs m)) None) ≡ None → (r >>= λ changes. cond (all_apply changes m) (Some changes) None) ≡ None
none_made None m e = refl
none_made (Some cs) m e =
    ⊎_elim (λ yes. absurd (none_some (applied cs m) (sym yes.1))) (λ no. ap (λ b. cond b (Some cs) None) no.0) (chosen (all_apply cs m) (Some (applied cs m)) None None e)

pub batch_made : (body : List ℕ) (n : ℕ) (old new : Tables) (x : ℕ × List ℕ) (b : Bool) → number_at w64 body ≡ Some x → x.0 ≡ n → tables_after x.1 old ≡ cond b (Some new) None → MakesBatch (batch_of body n old) old b new
unfolding tables_after
batch_made body n old new x true e same ran =
    let made = some_made (changes_of x.1) old new ran in
    (made.0, batch_at_number body n old x e ∙ ap (λ b. changes_of x.1 >>= λ changes. cond (b && all_apply changes old) (Some changes) None) (eq-eqb x.0 n same) ∙ made.1, made.2)
batch_made body n old new x false e same ran =
    batch_at_number body n old x e ∙ ap (λ b. changes_of x.1 >>= λ changes. cond (b && all_apply changes old) (Some changes) None) (eq-eqb x.0 n same) ∙ none_made (changes_of x.1) old ran
