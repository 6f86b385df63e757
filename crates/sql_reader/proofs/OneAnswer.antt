-- A text with parameters has one answer: one statement, or one refusal.
use Rattle.std.proofs.Common.{◌≡◌, ℕ, ◌+◌, ◌<◌, ◌≤◌, inl, inr, List, [], ◌∷◌, ◌++◌, length, Option, Some, None, refl, sym, ◌∙◌, ap, subst, arith}
use Rattle.std.specs.Prelude.{◌⊎◌}
use Rattle.std.specs.List.{AllByRecursion}
use Rattle.std.proofs.lemmas.Bool.{cases_lt}
use Rattle.vec_base.specs.declared.limits.TheConstants.{MOST_TEXT_BYTES}
use Rattle.vec_base.specs.declared.refusal.Refusal.{Refusal}
use Rattle.vec_base.specs.declared.refusal.Refusal.TheVariants.{BadSchema, Full, Parameter, Syntax}
use Rattle.vec_base.specs.declared.value.Value.{Value}
use Rattle.vec_literal.specs.Tokens.{Token}
use Rattle.grammar.specs.FailingToken.{refusal_of}
use Rattle.grammar.specs.Grammar.{Spells}
use Rattle.grammar.specs.Parameters.{numbered_tokens}
use Rattle.grammar.proofs.Laws.{one_value, fails_once}
use Rattle.row_model.specs.declared.limits.TheConstants.{TERMS_LIMIT}
use Rattle.row_model.specs.declared.statement.Statement.{Statement}
use Rattle.sql_reader.specs.declared.given.GivenStatement.{GivenStatement}
use Rattle.sql_reader.specs.GivenStatements.{Check, checks, Use, uses}
use Rattle.sql_reader.specs.StatementGrammar.{statement}
use Rattle.sql_reader.specs.StatementReading.{IsFirstFailing, IsGivenRefusal, IsLeastUntaken, IsParameterFault, IsRefusal, IsTaken, Means, ParametersFit, Passes, PassesChecks, SpellsStatement, count_fault, greatest, place_of, rule_fault}
use Rattle.sql_reader.specs.inner.FactoredStatements.{factored_statement}
use Rattle.sql_reader.specs.inner.PartMeanings.{AllPassed, AreTaken}
use Rattle.sql_reader.proofs.OneMeaning.{one_meaning}
use Rattle.sql_reader.proofs.StatementLines.{statement_same, statement_decides}

-- ---- what excludes what

-- one of these is in the middle
all_middle : {A : Type 0} (P : A → Type 0) (before behind : List A) (x : A) → AllByRecursion P (before ++ x ∷ behind) → P x
all_middle P [] behind x h = h.0
all_middle P (y ∷ before) behind x h = all_middle P before behind x h.1

pub passed_not_failing : (all : List Check) (place : ℕ) → AllPassed all → IsFirstFailing all place → ⊥
passed_not_failing all place f b = b.not_passed (all_middle Passes b.before b.behind b.failing (subst (λ (z : List Check). AllPassed z) b.whole f))

pub fit_no_fault : (params : List Value) (all : List Use) (index : ℕ) → ParametersFit params all → IsParameterFault params all index → ⊥
fit_no_fault params all index fit (inl few) = let less : length params < greatest all = few.0 in omega (arith, less, fit.count)
fit_no_fault params all index fit (inr (inl many)) = let more : greatest all < length params = many.0 in omega (arith, more, fit.count)
fit_no_fault params all index fit (inr (inr same)) =
    let b = same.1 in b.not_taken (all_middle (IsTaken params) b.before b.behind b.untaken (subst (λ (z : List Use). AreTaken params z) b.whole fit.taken))

some_none : (o : Option ℕ) (n : ℕ) → o ≡ Some n → o ≡ None → ⊥
some_none o n e k = let no = sym e ∙ k in cc

some_once : (o : Option ℕ) (n m : ℕ) → o ≡ Some n → o ≡ Some m → n ≡ m
some_once o n m e k = let same = sym e ∙ k in cc

-- ---- each fault is one

abbrev tail_of : List Check → List Check
tail_of [] = []
tail_of (x ∷ xs) = xs

abbrev head_of : Check → List Check → Check
head_of d [] = d
head_of d (x ∷ xs) = x

-- the first that fails is one, whatever stands behind it
first_once : (front other rest more : List Check) (x y : Check) → front ++ x ∷ rest ≡ other ++ y ∷ more → AllPassed front → AllPassed other → (Passes x → ⊥) → (Passes y → ⊥) → x ≡ y
first_once [] [] rest more x y e f g n m = ap (λ (z : List Check). head_of x z) e
first_once [] (z ∷ other) rest more x y e f g n m = absurd (n (subst (λ (c : Check). Passes c) (sym (ap (λ (q : List Check). head_of x q) e)) g.0))
first_once (z ∷ front) [] rest more x y e f g n m = absurd (m (subst (λ (c : Check). Passes c) (ap (λ (q : List Check). head_of y q) e) f.0))
first_once (z ∷ front) (w ∷ other) rest more x y e f g n m = first_once front other rest more x y (ap tail_of e) f.1 g.1 n m

failing_once : (all : List Check) (a b : ℕ) → IsFirstFailing all a → IsFirstFailing all b → a ≡ b
failing_once all a b f g =
    f.place ∙ (ap (λ (c : Check). place_of c) (first_once f.before g.before f.behind g.behind f.failing g.failing (sym f.whole ∙ g.whole) f.passed g.passed f.not_passed g.not_passed) ∙ sym g.place)

-- none below the least one is untaken
not_below : (params : List Value) (all : List Use) (a b : ℕ) → IsLeastUntaken params all a → IsLeastUntaken params all b → b < a → ⊥
not_below params all a b f g l =
    g.not_taken (all_middle (λ used. used.number < a → IsTaken params used) g.before g.behind g.untaken (subst (λ (z : List Use). AllByRecursion (λ used. used.number < a → IsTaken params used) z) g.whole f.least) (omega (arith, l, g.number)))

least_once : (params : List Value) (all : List Use) (a b : ℕ) → IsLeastUntaken params all a → IsLeastUntaken params all b → a ≡ b
least_once params all a b f g = elim (cases_lt a b) [
  | inl l ↦ absurd (not_below params all b a g f l)
  | inr l ↦ elim (cases_lt b a) [
    | inl k ↦ absurd (not_below params all a b f g k)
    | inr k ↦ omega (arith, l, k)
  ]
]

fault_once : (params : List Value) (all : List Use) (a b : ℕ) → IsParameterFault params all a → IsParameterFault params all b → a ≡ b
fault_once params all a b (inl f) (inl g) = f.1 ∙ sym g.1
fault_once params all a b (inl f) (inr (inl g)) = absurd (let less : length params < greatest all = f.0 in let more : greatest all < length params = g.0 in omega (arith, less, more))
fault_once params all a b (inl f) (inr (inr g)) = absurd (let less : length params < greatest all = f.0 in let same : greatest all ≡ length params = g.0 in omega (arith, less, same))
fault_once params all a b (inr (inl f)) (inl g) = absurd (let less : length params < greatest all = g.0 in let more : greatest all < length params = f.0 in omega (arith, less, more))
fault_once params all a b (inr (inl f)) (inr (inl g)) = f.1 ∙ sym g.1
fault_once params all a b (inr (inl f)) (inr (inr g)) = absurd (let more : greatest all < length params = f.0 in let same : greatest all ≡ length params = g.0 in omega (arith, more, same))
fault_once params all a b (inr (inr f)) (inl g) = absurd (let less : length params < greatest all = g.0 in let same : greatest all ≡ length params = f.0 in omega (arith, less, same))
fault_once params all a b (inr (inr f)) (inr (inl g)) = absurd (let more : greatest all < length params = g.0 in let same : greatest all ≡ length params = f.0 in omega (arith, more, same))
fault_once params all a b (inr (inr f)) (inr (inr g)) = least_once params all a b f.1 g.1

-- ---- one of several that come in an order

-- either the one, or what comes behind it where the one does not hold
in_order : (P Q : Refusal → Type 0) (Next : Type 0) → ((e f : Refusal) → P e → P f → e ≡ f) → ((e f : Refusal) → Q e → Q f → e ≡ f) → ((e : Refusal) → P e → Next → ⊥) →
    (e f : Refusal) → P e ⊎ (Next × Q e) → P f ⊎ (Next × Q f) → e ≡ f
in_order P Q Next p q apart e f (inl h) (inl k) = p e f h k
in_order P Q Next p q apart e f (inl h) (inr k) = absurd (apart e h k.0)
in_order P Q Next p q apart e f (inr h) (inl k) = absurd (apart f k h.0)
in_order P Q Next p q apart e f (inr h) (inr k) = q e f h.1 k.1

-- ---- what is given has one refusal

abbrev ByCheck : GivenStatement → Refusal → Type 0
ByCheck given e = (place : ℕ) × IsFirstFailing (checks given) place × (e ≡ Syntax place)

abbrev ByParameter : List Value → GivenStatement → Refusal → Type 0
ByParameter params given e = (index : ℕ) × IsParameterFault params (uses given) index × (e ≡ Parameter index)

abbrev ByCount : GivenStatement → Refusal → Type 0
ByCount given e = (count : ℕ) × (count_fault given ≡ Some count) × (e ≡ Full TERMS_LIMIT count)

abbrev ByRule : GivenStatement → Refusal → Type 0
ByRule given e = (rule : ℕ) × (rule_fault given ≡ Some rule) × (e ≡ BadSchema rule)

abbrev BehindParameters : GivenStatement → Refusal → Type 0
BehindParameters given e = ByCount given e ⊎ ((count_fault given ≡ None) × ByRule given e)

abbrev BehindChecks : List Value → GivenStatement → Refusal → Type 0
BehindChecks params given e = ByParameter params given e ⊎ (ParametersFit params (uses given) × BehindParameters given e)

check_once : (given : GivenStatement) (e f : Refusal) → ByCheck given e → ByCheck given f → e ≡ f
check_once given e f h k = h.2 ∙ (ap (λ (n : ℕ). Syntax n) (failing_once (checks given) h.0 k.0 h.1 k.1) ∙ sym k.2)

parameter_once : (params : List Value) (given : GivenStatement) (e f : Refusal) → ByParameter params given e → ByParameter params given f → e ≡ f
parameter_once params given e f h k = h.2 ∙ (ap (λ (n : ℕ). Parameter n) (fault_once params (uses given) h.0 k.0 h.1 k.1) ∙ sym k.2)

count_once : (given : GivenStatement) (e f : Refusal) → ByCount given e → ByCount given f → e ≡ f
count_once given e f h k = h.2 ∙ (ap (λ (n : ℕ). Full TERMS_LIMIT n) (some_once (count_fault given) h.0 k.0 h.1 k.1) ∙ sym k.2)

rule_once : (given : GivenStatement) (e f : Refusal) → ByRule given e → ByRule given f → e ≡ f
rule_once given e f h k = h.2 ∙ (ap (λ (n : ℕ). BadSchema n) (some_once (rule_fault given) h.0 k.0 h.1 k.1) ∙ sym k.2)

behind_parameters_once : (given : GivenStatement) (e f : Refusal) → BehindParameters given e → BehindParameters given f → e ≡ f
behind_parameters_once given = in_order (ByCount given) (ByRule given) (count_fault given ≡ None) (count_once given) (rule_once given) (λ e h n. some_none (count_fault given) h.0 h.1 n)

behind_checks_once : (params : List Value) (given : GivenStatement) (e f : Refusal) → BehindChecks params given e → BehindChecks params given f → e ≡ f
behind_checks_once params given =
    in_order (ByParameter params given) (BehindParameters given) (ParametersFit params (uses given)) (parameter_once params given) (behind_parameters_once given) (λ e h fit. fit_no_fault params (uses given) h.0 fit h.1)

given_once : (params : List Value) (given : GivenStatement) (e f : Refusal) → IsGivenRefusal params given e → IsGivenRefusal params given f → e ≡ f
given_once params given =
    in_order (ByCheck given) (BehindChecks params given) (PassesChecks given) (check_once given) (behind_checks_once params given) (λ e h passed. passed_not_failing (checks given) h.0 passed h.1)

-- what is given spells no statement where it is refused
given_refused : (params : List Value) (given : GivenStatement) (e : Refusal) → IsGivenRefusal params given e → PassesChecks given → ParametersFit params (uses given) → count_fault given ≡ None → rule_fault given ≡ None → ⊥
given_refused params given e (inl h) passed fit counts rules = passed_not_failing (checks given) h.0 passed h.1
given_refused params given e (inr (_, inl h)) passed fit counts rules = fit_no_fault params (uses given) h.0 fit h.1
given_refused params given e (inr (_, inr (_, inl h))) passed fit counts rules = some_none (count_fault given) h.0 h.1 counts
given_refused params given e (inr (_, inr (_, inr (_, h)))) passed fit counts rules = some_none (rule_fault given) h.0 h.1 rules

-- ---- texts

one_given : (text : List ℕ) (one other : GivenStatement) → Spells statement (numbered_tokens text) one → Spells statement (numbered_tokens text) other → one ≡ other
one_given text one other s t =
    one_value factored_statement statement_decides (numbered_tokens text) one other (statement_same.back.spelled (numbered_tokens text) one s) (statement_same.back.spelled (numbered_tokens text) other t)

-- no text spells two statements with the same parameters
pub one_statement : (text : List ℕ) (params : List Value) (one other : Statement) → SpellsStatement text params one → SpellsStatement text params other → one ≡ other
one_statement text params one other a b = one_meaning params b.given one other (subst (λ (g : GivenStatement). Means params g one) (one_given text a.given b.given a.spelled b.spelled) a.means) b.means

-- no text has two refusals with the same parameters
pub one_refusal : (text : List ℕ) (params : List Value) (one other : Refusal) → IsRefusal text params one → IsRefusal text params other → one ≡ other
one_refusal text params one other (inl h) (inl k) = h.1 ∙ sym k.1
one_refusal text params one other (inl h) (inr k) = absurd (omega (arith, h.0, k.0))
one_refusal text params one other (inr h) (inl k) = absurd (omega (arith, h.0, k.0))
one_refusal text params one other (inr (l, inl h)) (inr (m, inl k)) =
    h.2 ∙ (ap (λ (z : List Token). refusal_of (length text) z) (fails_once statement (numbered_tokens text) h.0 k.0 h.1 k.1) ∙ sym k.2)
one_refusal text params one other (inr (l, inl h)) (inr (m, inr k)) = absurd (let f = h.1 in f.none k.0 k.1)
one_refusal text params one other (inr (l, inr h)) (inr (m, inl k)) = absurd (let f = k.1 in f.none h.0 h.1)
one_refusal text params one other (inr (l, inr h)) (inr (m, inr k)) =
    given_once params k.0 one other (subst (λ (g : GivenStatement). IsGivenRefusal params g one) (one_given text h.0 k.0 h.1 k.1) h.2) k.2

-- no text that spells a statement has a refusal
pub never_both : (text : List ℕ) (params : List Value) (result : Statement) (refusal : Refusal) → SpellsStatement text params result → IsRefusal text params refusal → ⊥
never_both text params result refusal s (inl h) = omega (arith, s.within, h.0)
never_both text params result refusal s (inr (l, inl h)) = (let f = h.1 in f.none s.given s.spelled)
never_both text params result refusal s (inr (l, inr h)) =
    given_refused params s.given refusal (subst (λ (g : GivenStatement). IsGivenRefusal params g refusal) (one_given text h.0 s.given h.1 s.spelled) h.2) s.passed s.parameters s.counts s.rules
