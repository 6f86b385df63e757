-- From what a statement means to what is answered.
use Rattle.std.proofs.Common.{◌≡◌, true, ℕ, ◌≤◌, ◌<◌, inl, inr, List, length, Option, Some, None, Result, Ok, Err, refl, sym, subst}
use Rattle.std.specs.Prelude.{◌⊎◌, IfOk, IfErr, MatchOption}
use Rattle.vec_base.specs.Answers.{IsExactAnswer}
use Rattle.vec_base.specs.declared.limits.TheConstants.{MOST_TEXT_BYTES}
use Rattle.vec_base.specs.declared.refusal.Refusal.{Refusal}
use Rattle.vec_base.specs.declared.refusal.Refusal.TheVariants as refusals
use Rattle.vec_base.specs.declared.value.Value.{Value}
use Rattle.vec_base.proofs.AnswerLaws.{exact_by}
use Rattle.grammar.specs.Grammar.{Spells}
use Rattle.grammar.specs.Parameters.{numbered_tokens}
use Rattle.row_model.specs.WellFormed.{IsWellFormed}
use Rattle.row_model.specs.declared.statement.Statement.{Statement}
use Rattle.sql_reader.specs.declared.flaw.Flaw.{Flaw}
use Rattle.sql_reader.specs.declared.flaw.Flaw.TheVariants as flaws
use Rattle.sql_reader.specs.declared.given.GivenStatement.{GivenStatement}
use Rattle.sql_reader.specs.GivenStatements.{Check, checks, Use, uses}
use Rattle.sql_reader.specs.StatementGrammar.{statement}
use Rattle.sql_reader.specs.StatementReading.{FailsAtToken, IsFirstFailing, IsGivenRefusal, IsParameterFault, IsRefusal, ParametersFit, PassesChecks, SpellsStatement, count_fault}
use Rattle.sql_reader.specs.inner.PartMeanings.{AllPassed, AreTaken, IsStatementMeaning, ordered_checks, ordered_uses, answered}
use Rattle.sql_reader.specs.inner.WellFormedGivens.{is_well_formed}
use Rattle.sql_reader.proofs.MeaningLaws.{checks_ordered, uses_ordered}
use Rattle.sql_reader.proofs.OneAnswer.{one_statement, one_refusal, never_both}
use Rattle.sql_reader.proofs.WellFormed.{means_whole}

-- ---- in the text's order

passed_all : (given : GivenStatement) → AllPassed (ordered_checks given) → PassesChecks given
passed_all given f = subst (λ (z : List Check). AllPassed z) (sym (checks_ordered given)) f

failing_all : (given : GivenStatement) (place : ℕ) → IsFirstFailing (ordered_checks given) place → IsFirstFailing (checks given) place
failing_all given place b = subst (λ (z : List Check). IsFirstFailing z place) (sym (checks_ordered given)) b

taken_all : (params : List Value) (given : GivenStatement) → ParametersFit params (uses given) → AreTaken params (ordered_uses given)
taken_all params given fit = subst (λ (z : List Use). AreTaken params z) (uses_ordered given) fit.taken

abbrev Fault : List Value → GivenStatement → Option ℕ → Type 0
Fault params given fault = MatchOption fault (ParametersFit params (uses given)) (λ index. IsParameterFault params (uses given) index)

-- ---- the answer

ends_ok : (text : List ℕ) (params : List Value) (given : GivenStatement) (made : Result Statement Flaw) (fault count : Option ℕ) →
    length text ≤ MOST_TEXT_BYTES → Spells statement (numbered_tokens text) given → IsStatementMeaning params given made → Fault params given fault → count ≡ count_fault given →
    IfOk (answered made fault count) (λ s. SpellsStatement text params s)
ends_ok text params given (Err flaws.Memory) fault count l g m f e = tt
ends_ok text params given (Err (flaws.Place place)) fault count l g m f e = tt
ends_ok text params given (Err (flaws.Rule rule)) (Some index) count l g m f e = tt
ends_ok text params given (Err (flaws.Rule rule)) None (Some n) l g m f e = tt
ends_ok text params given (Err (flaws.Rule rule)) None None l g m f e = tt
ends_ok text params given (Ok s) (Some index) count l g m f e = tt
ends_ok text params given (Ok s) None (Some n) l g m f e = tt
ends_ok text params given (Ok s) None None l g m f e = record {
  within = l;
  given = given;
  spelled = g;
  passed = passed_all given m.0;
  parameters = f;
  counts = sym e;
  rules = m.1;
  means = m.2 (taken_all params given f);
}

-- the refusal of what is given, or want of memory
ends_err : (params : List Value) (given : GivenStatement) (made : Result Statement Flaw) (fault count : Option ℕ) →
    IsStatementMeaning params given made → Fault params given fault → count ≡ count_fault given → IfErr (answered made fault count) (λ e. (e ≡ refusals.WantOfMemory) ⊎ IsGivenRefusal params given e)
ends_err params given (Err flaws.Memory) fault count m f e = inl refl
ends_err params given (Err (flaws.Place place)) fault count m f e = inr (inl (place, failing_all given place m, refl))
ends_err params given (Err (flaws.Rule rule)) (Some index) count m f e = inr (inr (passed_all given m.0, inl (index, f, refl)))
ends_err params given (Err (flaws.Rule rule)) None (Some n) m f e = inr (inr (passed_all given m.0, inr (f, inl (n, sym e, refl))))
ends_err params given (Err (flaws.Rule rule)) None None m f e = inr (inr (passed_all given m.0, inr (f, inr (sym e, (rule, m.1, refl)))))
ends_err params given (Ok s) (Some index) count m f e = inr (inr (passed_all given m.0, inl (index, f, refl)))
ends_err params given (Ok s) None (Some n) m f e = inr (inr (passed_all given m.0, inr (f, inl (n, sym e, refl))))
ends_err params given (Ok s) None None m f e = tt

-- ---- texts

exact : (text : List ℕ) (params : List Value) (r : Result Statement Refusal) → IfOk r (λ s. SpellsStatement text params s) → IfErr r (λ e. (e ≡ refusals.WantOfMemory) ⊎ IsRefusal text params e) →
    IsExactAnswer refusals.WantOfMemory (λ s. SpellsStatement text params s) (λ e. IsRefusal text params e) r
exact text params r ok err =
    exact_by refusals.WantOfMemory (λ s. SpellsStatement text params s) (λ e. IsRefusal text params e) (one_statement text params) (one_refusal text params) (never_both text params) r ok err

pub long_answered : (text : List ℕ) (params : List Value) → MOST_TEXT_BYTES < length text →
    IsExactAnswer {A = Statement} refusals.WantOfMemory (λ s. SpellsStatement text params s) (λ e. IsRefusal text params e) (Err (refusals.Syntax MOST_TEXT_BYTES))
long_answered text params l = exact text params (Err (refusals.Syntax MOST_TEXT_BYTES)) tt (inr (inl (l, refl)))

failing_told : (text : List ℕ) (params : List Value) (e : Refusal) → length text ≤ MOST_TEXT_BYTES → (e ≡ refusals.WantOfMemory) ⊎ FailsAtToken text e → (e ≡ refusals.WantOfMemory) ⊎ IsRefusal text params e
failing_told text params e l (inl h) = inl h
failing_told text params e l (inr h) = inr (inr (l, inl h))

pub failing_answered : (text : List ℕ) (params : List Value) (e : Refusal) (r : Result Statement Refusal) → r ≡ Err e → length text ≤ MOST_TEXT_BYTES → (e ≡ refusals.WantOfMemory) ⊎ FailsAtToken text e →
    IsExactAnswer refusals.WantOfMemory (λ s. SpellsStatement text params s) (λ f. IsRefusal text params f) r
failing_answered text params e r k l h =
    subst (λ (z : Result Statement Refusal). IsExactAnswer refusals.WantOfMemory (λ s. SpellsStatement text params s) (λ f. IsRefusal text params f) z) (sym k)
    (exact text params (Err e) tt (failing_told text params e l h))

given_told : (text : List ℕ) (params : List Value) (given : GivenStatement) (r : Result Statement Refusal) → length text ≤ MOST_TEXT_BYTES → Spells statement (numbered_tokens text) given →
    IfErr r (λ e. (e ≡ refusals.WantOfMemory) ⊎ IsGivenRefusal params given e) → IfErr r (λ e. (e ≡ refusals.WantOfMemory) ⊎ IsRefusal text params e)
given_told text params given (Ok s) l g h = tt
given_told text params given (Err e) l g (inl h) = inl h
given_told text params given (Err e) l g (inr h) = inr (inr (l, inr (given, g, h)))

pub given_answered : (text : List ℕ) (params : List Value) (given : GivenStatement) (made : Result Statement Flaw) (fault count : Option ℕ) (r : Result Statement Refusal) → r ≡ answered made fault count →
    length text ≤ MOST_TEXT_BYTES → Spells statement (numbered_tokens text) given → IsStatementMeaning params given made →
    MatchOption fault (ParametersFit params (uses given)) (λ index. IsParameterFault params (uses given) index) → count ≡ count_fault given →
    IsExactAnswer refusals.WantOfMemory (λ s. SpellsStatement text params s) (λ e. IsRefusal text params e) r
given_answered text params given made fault count r k l g m f e =
    subst (λ (z : Result Statement Refusal). IsExactAnswer refusals.WantOfMemory (λ s. SpellsStatement text params s) (λ f. IsRefusal text params f) z) (sym k)
    (exact text params (answered made fault count) (ends_ok text params given made fault count l g m f e)
    (given_told text params given (answered made fault count) l g (ends_err params given made fault count m f e)))

-- a statement that is answered is well formed
pub ends_whole : (params : List Value) (given : GivenStatement) (made : Result Statement Flaw) (fault count : Option ℕ) →
    is_well_formed given ≡ true → IsStatementMeaning params given made → MatchOption fault (ParametersFit params (uses given)) (λ index. IsParameterFault params (uses given) index) → count ≡ count_fault given →
    IfOk (answered made fault count) (λ s. IsWellFormed s)
ends_whole params given (Err flaws.Memory) fault count g m f e = tt
ends_whole params given (Err (flaws.Place place)) fault count g m f e = tt
ends_whole params given (Err (flaws.Rule rule)) (Some index) count g m f e = tt
ends_whole params given (Err (flaws.Rule rule)) None (Some n) g m f e = tt
ends_whole params given (Err (flaws.Rule rule)) None None g m f e = tt
ends_whole params given (Ok s) (Some index) count g m f e = tt
ends_whole params given (Ok s) None (Some n) g m f e = tt
ends_whole params given (Ok s) None None g m f e = means_whole params given s g (passed_all given m.0) (sym e) m.1 (m.2 (taken_all params given f))
