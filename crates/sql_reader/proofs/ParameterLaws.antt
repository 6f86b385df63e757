-- What is known of parameters, one use after the other.
use Rattle.std.proofs.Common.{◌≡◌, ℕ, ◌+◌, ◌<◌, ◌≤◌, Bool, true, false, inl, inr, List, [], ◌∷◌, ◌++◌, length, Option, Some, None, refl, sym, ◌∙◌, ap, subst, arith, append_assoc, append-nil}
use Rattle.std.specs.Prelude.{max, MatchBool, MatchOption, nat_lt}
use Rattle.std.specs.List.{AllByRecursion, flat_map}
use Rattle.std.proofs.lemmas.Bool.{cases_lt, cond-true, cond-false, lt-ltb, le-ltb}
use Rattle.vec_base.specs.declared.value.Value.{Value}
use Rattle.sql_reader.specs.declared.parameters.UseSummary.{UseSummary}
use Rattle.sql_reader.specs.declared.given.Given.{Given}
use Rattle.sql_reader.specs.declared.given.Given.TheVariants as givens
use Rattle.sql_reader.specs.GivenStatements.{Use, any, int8, bits, uses_of}
use Rattle.sql_reader.specs.inner.PartMeanings.{AreTaken}
use Rattle.sql_reader.specs.inner.ParameterSummaries.{Summarizes, SummarizesMore, lesser, with_use, fault_of}
use Rattle.sql_reader.specs.StatementReading.{IsTaken, Takes, parameter, greatest, IsLeastUntaken, IsParameterFault, ParametersFit}
use Rattle.sql_reader.proofs.PartLaws.{all_append, flat_more}

-- the greatest number with one more
greatest_append : (seen : List Use) (used : Use) → greatest (seen ++ used ∷ []) ≡ max (greatest seen) used.number
greatest_append [] used = let e : max used.number 0 ≡ max 0 used.number = omega arith in e
greatest_append (first ∷ seen) used =
    ap (λ (n : ℕ). max first.number n) (greatest_append seen used) ∙ (let e : max first.number (max (greatest seen) used.number) ≡ max (max first.number (greatest seen)) used.number = omega arith in e)

all_weaker : {A : Type 0} (P Q : A → Type 0) → ((x : A) → P x → Q x) → (xs : List A) → AllByRecursion P xs → AllByRecursion Q xs
all_weaker P Q f [] h = tt
all_weaker P Q f (x ∷ xs) h = (f x h.0, all_weaker P Q f xs h.1)

-- the uses below an index are taken
abbrev TakenBelow : List Value → ℕ → Use → Type 0
TakenBelow params index used = used.number < index → IsTaken params used

least_kept : (params : List Value) (seen : List Use) (index : ℕ) (used : Use) → IsLeastUntaken params seen index → TakenBelow params index used → IsLeastUntaken params (seen ++ used ∷ []) index
least_kept params seen index used b t = record {
  before = b.before;
  untaken = b.untaken;
  behind = b.behind ++ used ∷ [];
  whole = ap (λ (z : List Use). z ++ used ∷ []) b.whole ∙ append_assoc b.before (b.untaken ∷ b.behind) (used ∷ []);
  number = b.number;
  not_taken = b.not_taken;
  least = all_append (TakenBelow params index) seen (used ∷ []) b.least (t, tt);
}

least_new : (params : List Value) (seen : List Use) (used : Use) → (IsTaken params used → ⊥) → AllByRecursion (TakenBelow params used.number) seen → IsLeastUntaken params (seen ++ used ∷ []) used.number
least_new params seen used n h = record {
  before = seen;
  untaken = used;
  behind = [];
  whole = refl;
  number = refl;
  not_taken = n;
  least = all_append (TakenBelow params used.number) seen (used ∷ []) h ((λ l. absurd (omega (arith, l))), tt);
}

-- what is kept of those that are not taken

abbrev Untaken : List Value → List Use → Option ℕ → Type 0
Untaken params seen o = MatchOption o (AreTaken params seen) (λ index. IsLeastUntaken params seen index)

untaken_taken : (params : List Value) (seen : List Use) (used : Use) (o : Option ℕ) → IsTaken params used → Untaken params seen o → Untaken params (seen ++ used ∷ []) o
untaken_taken params seen used None t h = all_append (IsTaken params) seen (used ∷ []) h (t, tt)
untaken_taken params seen used (Some index) t h = least_kept params seen index used h (λ l. t)

untaken_more : (params : List Value) (seen : List Use) (used : Use) (o : Option ℕ) → (IsTaken params used → ⊥) → Untaken params seen o → Untaken params (seen ++ used ∷ []) (Some (lesser used.number o))
untaken_more params seen used None n h = least_new params seen used n (all_weaker (IsTaken params) (TakenBelow params used.number) (λ x t l. t) seen h)
untaken_more params seen used (Some index) n h = elim (cases_lt used.number index) [
  | inl l ↦ subst (λ (i : ℕ). IsLeastUntaken params (seen ++ used ∷ []) i) (sym (cond-true (nat_lt used.number index) used.number index (lt-ltb used.number index l)))
      (least_new params seen used n (all_weaker (TakenBelow params index) (TakenBelow params used.number) (λ x t k. t (omega (arith, k, l))) seen h.least))
  | inr l ↦ subst (λ (i : ℕ). IsLeastUntaken params (seen ++ used ∷ []) i) (sym (cond-false (nat_lt used.number index) used.number index (le-ltb used.number index l)))
      (least_kept params seen index used h (λ k. absurd (omega (arith, k, l))))
]

-- ---- one parameter more

use_summarized : (params : List Value) (used : Use) (taken : Bool) (old new : UseSummary) → MatchBool taken (IsTaken params used) (IsTaken params used → ⊥) → new ≡ with_use used.number taken old → SummarizesMore params (used ∷ []) old new
use_summarized params used true old new t e seen h =
    subst (λ (n : UseSummary). Summarizes params (seen ++ used ∷ []) n) (sym e) (record {
      greatest = ap (λ (n : ℕ). max n used.number) h.greatest ∙ sym (greatest_append seen used);
      untaken = untaken_taken params seen used old.untaken t h.untaken;
    })
use_summarized params used false old new t e seen h =
    subst (λ (n : UseSummary). Summarizes params (seen ++ used ∷ []) n) (sym e) (record {
      greatest = ap (λ (n : ℕ). max n used.number) h.greatest ∙ sym (greatest_append seen used);
      untaken = untaken_more params seen used old.untaken t h.untaken;
    })

pub no_uses : (params : List Value) (summary : UseSummary) → SummarizesMore params [] summary summary
no_uses params summary seen h = subst (λ (z : List Use). Summarizes params z summary) (sym (append-nil seen)) h

-- the uses of a value

pub any_summarized : (params : List Value) (n : ℕ) (given : Given) (old new : UseSummary) → given ≡ givens.Parameter n → new ≡ with_use n true old → SummarizesMore params (uses_of given) old new
any_summarized params n given old new e k = subst (λ (g : Given). SummarizesMore params (uses_of g) old new) (sym e) (use_summarized params (record { number = n; taker = any }) true old new tt k)

pub int8_summarized : (params : List Value) (n : ℕ) (taken : Bool) (given : Given) (old new : UseSummary) → given ≡ givens.Int8Parameter n → MatchBool taken (Takes int8 (parameter params n)) (Takes int8 (parameter params n) → ⊥) → new ≡ with_use n taken old → SummarizesMore params (uses_of given) old new
int8_summarized params n taken given old new e t k = subst (λ (g : Given). SummarizesMore params (uses_of g) old new) (sym e) (use_summarized params (record { number = n; taker = int8 }) taken old new t k)

pub bits_summarized : (params : List Value) (n : ℕ) (taken : Bool) (given : Given) (old new : UseSummary) → given ≡ givens.BitsParameter n → MatchBool taken (Takes bits (parameter params n)) (Takes bits (parameter params n) → ⊥) → new ≡ with_use n taken old → SummarizesMore params (uses_of given) old new
bits_summarized params n taken given old new e t k = subst (λ (g : Given). SummarizesMore params (uses_of g) old new) (sym e) (use_summarized params (record { number = n; taker = bits }) taken old new t k)

pub one_value : (params : List Value) (given : Given) (old new : UseSummary) → SummarizesMore params (uses_of given) old new → SummarizesMore params (uses_of given ++ []) old new
one_value params given old new h = subst (λ (z : List Use). SummarizesMore params z old new) (sym (append-nil (uses_of given))) h

-- ---- lists

pub summaries_joined : (params : List Value) (first second : List Use) (old mid new : UseSummary) → SummarizesMore params first old mid → SummarizesMore params second mid new → SummarizesMore params (first ++ second) old new
summaries_joined params first second old mid new h k seen n = subst (λ (z : List Use). Summarizes params z new) (append_assoc seen first second) (k (seen ++ first) (h seen n))

pub summaries_more : {X : Type 0} (us : X → List Use) (params : List Value) (front more : List X) (x : X) (old mid new : UseSummary) → SummarizesMore params (flat_map us front) old mid → SummarizesMore params (us x) mid new → more ≡ front ++ x ∷ [] → SummarizesMore params (flat_map us more) old new
summaries_more us params front more x old mid new h k e =
    subst (λ z. SummarizesMore params (flat_map us z) old new) (sym e)
    (subst (λ z. SummarizesMore params z old new) (sym (flat_more us front x)) (summaries_joined params (flat_map us front) (us x) old mid new h k))

pub summaries_end : {X : Type 0} (us : X → List Use) (params : List Value) (front all : List X) (old new : UseSummary) → SummarizesMore params (flat_map us front) old new → front ≡ all → SummarizesMore params (flat_map us all) old new
summaries_end us params front all old new h e = subst (λ z. SummarizesMore params (flat_map us z) old new) e h

-- ---- the fault

pub summary_none : (params : List Value) (summary : UseSummary) → summary.greatest ≡ 0 → summary.untaken ≡ None → Summarizes params [] summary
summary_none params summary g u = record { greatest = g; untaken = subst (λ (o : Option ℕ). Untaken params [] o) (sym u) tt }

untaken_fault : (params : List Value) (seen : List Use) (o : Option ℕ) → greatest seen ≡ length params → Untaken params seen o → MatchOption o (ParametersFit params seen) (λ index. IsParameterFault params seen index)
untaken_fault params seen None e h = record { count = e; taken = h }
untaken_fault params seen (Some index) e h = inr (inr (e, h))

abbrev Fault : List Value → List Use → Option ℕ → Type 0
Fault params seen o = MatchOption o (ParametersFit params seen) (λ index. IsParameterFault params seen index)

pub fault_told : (params : List Value) (seen : List Use) (summary : UseSummary) → Summarizes params seen summary → Fault params seen (fault_of summary (length params))
fault_told params seen summary n = elim (cases_lt (length params) summary.greatest) [
  | inl l ↦ subst (λ (o : Option ℕ). Fault params seen o) (sym (cond-true (nat_lt (length params) summary.greatest) (Some (length params + 1)) _ (lt-ltb (length params) summary.greatest l)))
      (inl (omega (arith, l, n.greatest), refl))
  | inr l ↦ elim (cases_lt summary.greatest (length params)) [
    | inl k ↦ subst (λ (o : Option ℕ). Fault params seen o)
        (sym (cond-false (nat_lt (length params) summary.greatest) (Some (length params + 1)) _ (le-ltb (length params) summary.greatest l) ∙ cond-true (nat_lt summary.greatest (length params)) (Some (summary.greatest + 1)) summary.untaken (lt-ltb summary.greatest (length params) k)))
        (inr (inl (omega (arith, k, n.greatest), ap (λ (m : ℕ). m + 1) n.greatest)))
    | inr k ↦ subst (λ (o : Option ℕ). Fault params seen o)
        (sym (cond-false (nat_lt (length params) summary.greatest) (Some (length params + 1)) _ (le-ltb (length params) summary.greatest l) ∙ cond-false (nat_lt summary.greatest (length params)) (Some (summary.greatest + 1)) summary.untaken (le-ltb summary.greatest (length params) k)))
        (untaken_fault params seen summary.untaken (sym n.greatest ∙ (let e : summary.greatest ≡ length params = omega (arith, l, k) in e)) n.untaken)
  ]
]

-- ---- no number is above 999

abbrev AreSmall : List Use → Type 0
AreSmall all = AllByRecursion (λ used. used.number ≤ 999) all

pub small_greatest : (all : List Use) → AllByRecursion (λ used. used.number ≤ 999) all → greatest all ≤ 999
small_greatest [] h = omega arith
small_greatest (used ∷ all) h = let more : greatest all ≤ 999 = small_greatest all h.1 in let first : used.number ≤ 999 = h.0 in omega (arith, more, first)
