-- From what is read of a column text to what is answered.
use Rattle.std.proofs.Common.{◌≡◌, ℕ, ◌≤◌, ◌<◌, true, false, inl, inr, List, [], ◌∷◌, length, drop, Option, Some, None, Result, Ok, Err, refl, sym, ◌∙◌, ap, subst}
use Rattle.std.specs.Prelude.{codes, ◌⊎◌, IfOk, IfErr}
use Rattle.vec_base.specs.Answers.{Gives, IsExactAnswer}
use Rattle.vec_base.specs.declared.limits.TheConstants.{MOST_TEXT_BYTES}
use Rattle.vec_base.specs.declared.refusal.Refusal.{Refusal}
use Rattle.vec_base.specs.declared.refusal.Refusal.TheVariants.{BadSchema, Syntax, WantOfMemory}
use Rattle.vec_base.proofs.AnswerLaws.{exact_by}
use Rattle.vec_literal.specs.Tokens.{Token, tokens}
use Rattle.grammar.specs.FailingToken.{refusal_of}
use Rattle.grammar.specs.Grammar.{sign, Spells, SpellsFront, FailsAt, FailsInside}
use Rattle.grammar.specs.inner.ReaderResults.{first_of, place_of}
use Rattle.grammar.specs.inner.Reading.{Outcome, ◌>>=◌, next_in, read_one, read}
use Rattle.grammar.proofs.Factoring.{same_fails, same_fails_inside, front_within}
use Rattle.grammar.proofs.Loops.{whole_found, more_fails, err_fails, front_found, front_fails}
use Rattle.grammar.proofs.Places.{one_fits, one_fails}
use Rattle.row_model.specs.Schemas.{IsValidSchema}
use Rattle.row_model.specs.declared.schema.Schema.{Schema}
use Rattle.vec0_columns.specs.declared.text.Arg.{Arg}
use Rattle.vec0_columns.specs.ColumnGrammar.{columns, enclosed, schema_of, text_fault}
use Rattle.vec0_columns.specs.ColumnReading.{BreakRule, Declares, DeclaresAt, IsRefusal, IsRefusalAt, answer_by, answer_of, placed}
use Rattle.vec0_columns.specs.inner.FactoredColumns.{factored_columns, factored_enclosed}
use Rattle.vec0_columns.proofs.ColumnChoices.{columns_decides, enclosed_decides, enclosed_ends}
use Rattle.vec0_columns.proofs.ColumnLines.{columns_same, enclosed_same}
use Rattle.vec0_columns.proofs.OneAnswer.{one_schema, one_refusal, never_both, one_schema_at, one_refusal_at, never_both_at}

-- an answer tells whether a rule is broken

ok_by : (o : Option ℕ) (schema s : Schema) → (let r : Result Schema Refusal = Ok s in r) ≡ answer_by o schema → (o ≡ None) × (s ≡ schema)
ok_by None schema s h = (refl, cc)
ok_by (Some rule) schema s h = absurd cc

err_by : (o : Option ℕ) (schema : Schema) (e : Refusal) → (let r : Result Schema Refusal = Err e in r) ≡ answer_by o schema → (rule : ℕ) × (o ≡ Some rule) × (e ≡ BadSchema rule)
err_by None schema e h = absurd cc
err_by (Some rule) schema e h = (rule, refl, cc)

answered_ok : (parts : List Arg) (s : Schema) → Gives WantOfMemory (Ok s) (answer_of parts) → (text_fault parts ≡ None) × (s ≡ schema_of parts)
answered_ok parts s (inl h) = ok_by (text_fault parts) (schema_of parts) s h
answered_ok parts s (inr h) = absurd cc

answered_err : (parts : List Arg) (e : Refusal) → Gives {A = Schema} WantOfMemory (Err e) (answer_of parts) → (e ≡ WantOfMemory) ⊎ BreakRule parts e
answered_err parts e (inl h) = inr (err_by (text_fault parts) (schema_of parts) e h)
answered_err parts e (inr h) = inl cc

-- ---- a whole text

abbrev Exact : List ℕ → Result Schema Refusal → Type 0
Exact text r = IsExactAnswer WantOfMemory (λ s. Declares text s) (λ e. IsRefusal text e) r

exact : (text : List ℕ) (r : Result Schema Refusal) → IfOk r (λ s. Declares text s) → IfErr r (λ e. (e ≡ WantOfMemory) ⊎ IsRefusal text e) → Exact text r
exact text r ok err = exact_by WantOfMemory (λ s. Declares text s) (λ e. IsRefusal text e) (one_schema text) (one_refusal text) (never_both text) r ok err

pub long_answered : (text : List ℕ) → MOST_TEXT_BYTES < length text → IsExactAnswer WantOfMemory (λ s. Declares text s) (λ e. IsRefusal text e) (Err (Syntax MOST_TEXT_BYTES))
long_answered text l = exact text (Err (Syntax MOST_TEXT_BYTES)) tt (inr (inl (l, refl)))

pub failing_answered : (text : List ℕ) (left : List Token) (e : Refusal) → length text ≤ MOST_TEXT_BYTES → FailsAt columns (tokens text 0) left → e ≡ refusal_of (length text) left →
    IsExactAnswer WantOfMemory (λ s. Declares text s) (λ f. IsRefusal text f) (Err e)
failing_answered text left e l f h = exact text (Err e) tt (inr (inr (l, inl (left, f, h))))

parts_ok : (text : List ℕ) (parts : List Arg) (r : Result Schema Refusal) → length text ≤ MOST_TEXT_BYTES → Spells columns (tokens text 0) parts → Gives WantOfMemory r (answer_of parts) → IfOk r (λ s. Declares text s)
parts_ok text parts (Ok s) l p a = let b = answered_ok parts s a in record { within = l; parts = parts; spelled = p; rules = b.0; declared = b.1 }
parts_ok text parts (Err e) l p a = tt

broken : (text : List ℕ) (parts : List Arg) (e : Refusal) → length text ≤ MOST_TEXT_BYTES → Spells columns (tokens text 0) parts → (e ≡ WantOfMemory) ⊎ BreakRule parts e → (e ≡ WantOfMemory) ⊎ IsRefusal text e
broken text parts e l p (inl h) = inl h
broken text parts e l p (inr h) = inr (inr (l, inr (parts, p, h)))

parts_err : (text : List ℕ) (parts : List Arg) (r : Result Schema Refusal) → length text ≤ MOST_TEXT_BYTES → Spells columns (tokens text 0) parts → Gives WantOfMemory r (answer_of parts) → IfErr r (λ e. (e ≡ WantOfMemory) ⊎ IsRefusal text e)
parts_err text parts (Ok s) l p a = tt
parts_err text parts (Err e) l p a = broken text parts e l p (answered_err parts e a)

pub parts_answered : (text : List ℕ) (parts : List Arg) (r : Result Schema Refusal) → length text ≤ MOST_TEXT_BYTES → Spells columns (tokens text 0) parts → Gives WantOfMemory r (answer_of parts) →
    IsExactAnswer WantOfMemory (λ s. Declares text s) (λ e. IsRefusal text e) r
parts_answered text parts r l p a = exact text r (parts_ok text parts r l p a) (parts_err text parts r l p a)

pub spelled : (ts left : List Token) (parts : List Arg) → read factored_columns ts ≡ Ok (parts, left) → left ≡ [] → Spells columns ts parts
spelled ts left parts e n = columns_same.there.spelled ts parts (whole_found factored_columns ts left parts e n)

pub more_left : (ts left : List Token) (parts : List Arg) → read factored_columns ts ≡ Ok (parts, left) → (left ≡ [] → ⊥) → FailsAt columns ts left
more_left ts left parts e n = same_fails factored_columns columns ts left columns_same (more_fails factored_columns columns_decides ts left parts e n)

pub stopped : (ts left : List Token) → read factored_columns ts ≡ Err left → FailsAt columns ts left
stopped ts left e = same_fails factored_columns columns ts left columns_same (err_fails factored_columns columns_decides ts left e)

-- ---- up to the closing parenthesis

abbrev ExactAt : List ℕ → ℕ → Result (Schema × ℕ) Refusal → Type 0
ExactAt text from r = IsExactAnswer WantOfMemory (λ x. DeclaresAt text from x.0 x.1) (λ e. IsRefusalAt text from e) r

exact_at : (text : List ℕ) (from : ℕ) (r : Result (Schema × ℕ) Refusal) → IfOk r (λ x. DeclaresAt text from x.0 x.1) → IfErr r (λ e. (e ≡ WantOfMemory) ⊎ IsRefusalAt text from e) → ExactAt text from r
exact_at text from r ok err =
    exact_by {A = Schema × ℕ} WantOfMemory (λ x. DeclaresAt text from x.0 x.1) (λ e. IsRefusalAt text from e) (one_schema_at text from) (one_refusal_at text from) (never_both_at text from) r ok err

pub long_answered_at : (text : List ℕ) (from : ℕ) → MOST_TEXT_BYTES < length text → IsExactAnswer WantOfMemory (λ (x : Schema × ℕ). DeclaresAt text from x.0 x.1) (λ e. IsRefusalAt text from e) (Err (Syntax MOST_TEXT_BYTES))
long_answered_at text from l = exact_at text from (Err (Syntax MOST_TEXT_BYTES)) tt (inr (inl (l, refl)))

pub failing_answered_at : (text : List ℕ) (from : ℕ) (left : List Token) (e : Refusal) → length text ≤ MOST_TEXT_BYTES → FailsInside enclosed (tokens text from) left → e ≡ refusal_of (length text) left →
    IsExactAnswer WantOfMemory (λ (x : Schema × ℕ). DeclaresAt text from x.0 x.1) (λ f. IsRefusalAt text from f) (Err e)
failing_answered_at text from left e l f h = exact_at text from (Err e) tt (inr (inr (l, inl (left, f, h))))

closed_by : (left : List Token) (parts : List Arg) → next_in (sign (codes ")") ∷ []) left ≡ true →
    (let r : Outcome Token = read_one (sign (codes ")")) left in r >>= λ y. (let k : Outcome (List Arg × Token) = Ok ((parts, y.0), y.1) in k)) ≡ Ok ((parts, first_of left), drop 1 left)
closed_by left parts m = ap (λ (r : Outcome Token). r >>= λ y. (let k : Outcome (List Arg × Token) = Ok ((parts, y.0), y.1) in k)) (one_fits (sign (codes ")")) left m)

closed : (ts left : List Token) (parts : List Arg) → read factored_columns ts ≡ Ok (parts, left) → next_in (sign (codes ")") ∷ []) left ≡ true → read factored_enclosed ts ≡ Ok ((parts, first_of left), drop 1 left)
unfolding factored_enclosed
closed ts left parts e m =
    ap (λ (r : Outcome (List Arg)). r >>= λ x. (let o : Outcome Token = read_one (sign (codes ")")) x.1 in o >>= λ y. (let k : Outcome (List Arg × Token) = Ok ((x.0, y.0), y.1) in k))) e ∙ closed_by left parts m

pub spelled_front : (ts left : List Token) (parts : List Arg) → read factored_columns ts ≡ Ok (parts, left) → next_in (sign (codes ")") ∷ []) left ≡ true → SpellsFront enclosed ts (parts, first_of left) (drop 1 left)
spelled_front ts left parts e m = front_within factored_enclosed enclosed ts (parts, first_of left) (drop 1 left) enclosed_same.there (front_found factored_enclosed ts (drop 1 left) (parts, first_of left) (closed ts left parts e m))

stopped_inside : (ts left : List Token) → read factored_enclosed ts ≡ Err left → FailsInside enclosed ts left
stopped_inside ts left e = same_fails_inside factored_enclosed enclosed ts left enclosed_same (front_fails factored_enclosed enclosed_decides enclosed_ends ts left e)

pub unclosed : (ts left : List Token) (parts : List Arg) → read factored_columns ts ≡ Ok (parts, left) → next_in (sign (codes ")") ∷ []) left ≡ false → FailsInside enclosed ts left
unfolding factored_enclosed
unclosed ts left parts e m =
    stopped_inside ts left
    (ap (λ (r : Outcome (List Arg)). r >>= λ x. (let o : Outcome Token = read_one (sign (codes ")")) x.1 in o >>= λ y. (let k : Outcome (List Arg × Token) = Ok ((x.0, y.0), y.1) in k))) e ∙
    ap (λ (r : Outcome Token). r >>= λ y. (let k : Outcome (List Arg × Token) = Ok ((parts, y.0), y.1) in k)) (one_fails (sign (codes ")")) left m))

pub not_begun : (ts left : List Token) → read factored_columns ts ≡ Err left → FailsInside enclosed ts left
unfolding factored_enclosed
not_begun ts left e = stopped_inside ts left (ap (λ (r : Outcome (List Arg)). r >>= λ x. (let o : Outcome Token = read_one (sign (codes ")")) x.1 in o >>= λ y. (let k : Outcome (List Arg × Token) = Ok ((x.0, y.0), y.1) in k))) e)

pub place_closed : (end : ℕ) (left : List Token) → next_in (sign (codes ")") ∷ []) left ≡ true → place_of end left ≡ (first_of left).place
place_closed end [] m = absurd cc
place_closed end (t ∷ us) m = refl

placed_ok : (text : List ℕ) (from : ℕ) (more : List Token) (parts : List Arg) (t : Token) (place : ℕ) (r : Result Schema Refusal) → length text ≤ MOST_TEXT_BYTES →
    SpellsFront enclosed (tokens text from) (parts, t) more → place ≡ t.place → Gives WantOfMemory r (answer_of parts) → IfOk (placed place r) (λ x. DeclaresAt text from x.0 x.1)
placed_ok text from more parts t place (Ok s) l p e a =
    let b = answered_ok parts s a in
    record { within = l; parts = parts; closing = t; rest = more; spelled = p; rules = b.0; declared = b.1; place = e }
placed_ok text from more parts t place (Err e) l p h a = tt

broken_at : (text : List ℕ) (from : ℕ) (more : List Token) (parts : List Arg) (t : Token) (e : Refusal) → length text ≤ MOST_TEXT_BYTES → SpellsFront enclosed (tokens text from) (parts, t) more →
    (e ≡ WantOfMemory) ⊎ BreakRule parts e → (e ≡ WantOfMemory) ⊎ IsRefusalAt text from e
broken_at text from more parts t e l p (inl h) = inl h
broken_at text from more parts t e l p (inr h) = inr (inr (l, inr ((parts, t), more, p, h)))

placed_err : (text : List ℕ) (from : ℕ) (more : List Token) (parts : List Arg) (t : Token) (place : ℕ) (r : Result Schema Refusal) → length text ≤ MOST_TEXT_BYTES →
    SpellsFront enclosed (tokens text from) (parts, t) more → Gives WantOfMemory r (answer_of parts) → IfErr (placed place r) (λ e. (e ≡ WantOfMemory) ⊎ IsRefusalAt text from e)
placed_err text from more parts t place (Ok s) l p a = tt
placed_err text from more parts t place (Err e) l p a = broken_at text from more parts t e l p (answered_err parts e a)

pub parts_answered_at : (text : List ℕ) (from : ℕ) (more : List Token) (parts : List Arg) (t : Token) (place : ℕ) (r : Result Schema Refusal) (q : Result (Schema × ℕ) Refusal) → length text ≤ MOST_TEXT_BYTES →
    SpellsFront enclosed (tokens text from) (parts, t) more → place ≡ t.place → q ≡ placed place r → Gives WantOfMemory r (answer_of parts) →
    IsExactAnswer WantOfMemory (λ (x : Schema × ℕ). DeclaresAt text from x.0 x.1) (λ e. IsRefusalAt text from e) q
parts_answered_at text from more parts t place r q l p e h a =
    subst (λ (z : Result (Schema × ℕ) Refusal). ExactAt text from z) (sym h) (exact_at text from (placed place r) (placed_ok text from more parts t place r l p e a) (placed_err text from more parts t place r l p a))

pub placed_valid : (place : ℕ) (r : Result Schema Refusal) (q : Result (Schema × ℕ) Refusal) → q ≡ placed place r → IfOk r (λ s. IsValidSchema s) → IfOk q (λ x. IsValidSchema x.0)
placed_valid place (Ok s) q e h = subst (λ (z : Result (Schema × ℕ) Refusal). IfOk z (λ x. IsValidSchema x.0)) (sym e) h
placed_valid place (Err r) q e h = subst (λ (z : Result (Schema × ℕ) Refusal). IfOk z (λ x. IsValidSchema x.0)) (sym e) tt
