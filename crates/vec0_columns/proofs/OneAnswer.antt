-- A column text has one answer: one schema, or one refusal.
use Rattle.std.proofs.Common.{◌≡◌, ℕ, ◌<◌, inl, inr, List, length, Some, None, Ok, refl, sym, ap, ◌∙◌, arith}
use Rattle.vec_base.specs.declared.refusal.Refusal.{Refusal}
use Rattle.vec_base.specs.declared.refusal.Refusal.TheVariants.{BadSchema}
use Rattle.vec_literal.specs.Tokens.{Token, tokens}
use Rattle.grammar.specs.FailingToken.{refusal_of}
use Rattle.grammar.specs.Grammar.{Spells, SpellsFront}
use Rattle.grammar.specs.inner.Reading.{Outcome, read}
use Rattle.grammar.proofs.Factoring.{front_within}
use Rattle.grammar.proofs.Laws.{one_value, fails_once, fails_once_inside}
use Rattle.grammar.proofs.Loops.{front_only}
use Rattle.row_model.specs.declared.schema.Schema.{Schema}
use Rattle.vec0_columns.specs.declared.text.Arg.{Arg}
use Rattle.vec0_columns.specs.ColumnGrammar.{columns, enclosed, schema_of, text_fault}
use Rattle.vec0_columns.specs.ColumnReading.{BreakRule, Declares, DeclaresAt, IsRefusal, IsRefusalAt}
use Rattle.vec0_columns.specs.inner.FactoredColumns.{factored_columns, factored_enclosed}
use Rattle.vec0_columns.proofs.ColumnChoices.{columns_decides, enclosed_decides, enclosed_ends}
use Rattle.vec0_columns.proofs.ColumnLines.{columns_same, enclosed_same}

-- ---- parts

one_rule : (one other : List Arg) (e f : Refusal) → one ≡ other → BreakRule one e → BreakRule other f → e ≡ f
one_rule one other e f same b k =
    let rule : Some b.0 ≡ Some k.0 = sym b.1 ∙ (ap text_fault same ∙ k.1) in
    let number : b.0 ≡ k.0 = cc in
    b.2 ∙ (ap (λ (n : ℕ). BadSchema n) number ∙ sym k.2)

no_rule : (one other : List Arg) (e : Refusal) → one ≡ other → text_fault one ≡ None → BreakRule other e → ⊥
no_rule one other e same fine b = let no : Some b.0 ≡ None = sym b.1 ∙ (ap text_fault (sym same) ∙ fine) in absurd cc

-- ---- a whole text

one_spelling : (ts : List Token) (one other : List Arg) → Spells columns ts one → Spells columns ts other → one ≡ other
one_spelling ts one other s t = one_value factored_columns columns_decides ts one other (columns_same.back.spelled ts one s) (columns_same.back.spelled ts other t)

pub one_schema : (text : List ℕ) (one other : Schema) → Declares text one → Declares text other → one ≡ other
one_schema text one other d e = d.declared ∙ (ap schema_of (one_spelling (tokens text 0) d.parts e.parts d.spelled e.spelled) ∙ sym e.declared)

pub one_refusal : (text : List ℕ) (one other : Refusal) → IsRefusal text one → IsRefusal text other → one ≡ other
one_refusal text one other (inl h) (inl k) = h.1 ∙ sym k.1
one_refusal text one other (inl h) (inr k) = absurd (omega (arith, h.0, k.0))
one_refusal text one other (inr h) (inl k) = absurd (omega (arith, h.0, k.0))
one_refusal text one other (inr (l, inl h)) (inr (m, inl k)) = h.2 ∙ (ap (λ (z : List Token). refusal_of (length text) z) (fails_once columns (tokens text 0) h.0 k.0 h.1 k.1) ∙ sym k.2)
one_refusal text one other (inr (l, inl h)) (inr (m, inr k)) = absurd (let f = h.1 in f.none k.0 k.1)
one_refusal text one other (inr (l, inr h)) (inr (m, inl k)) = absurd (let f = k.1 in f.none h.0 h.1)
one_refusal text one other (inr (l, inr h)) (inr (m, inr k)) = one_rule h.0 k.0 one other (one_spelling (tokens text 0) h.0 k.0 h.1 k.1) h.2 k.2

pub never_both : (text : List ℕ) (schema : Schema) (refusal : Refusal) → Declares text schema → IsRefusal text refusal → ⊥
never_both text schema refusal d (inl h) = omega (arith, d.within, h.0)
never_both text schema refusal d (inr (l, inl h)) = (let f = h.1 in f.none d.parts d.spelled)
never_both text schema refusal d (inr (l, inr h)) = no_rule d.parts h.0 refusal (one_spelling (tokens text 0) d.parts h.0 d.spelled h.1) d.rules h.2

-- ---- up to the closing parenthesis

pub read_front : (ts left : List Token) (x : List Arg × Token) → SpellsFront enclosed ts x left → read factored_enclosed ts ≡ Ok (x, left)
read_front ts left x s = front_only factored_enclosed enclosed_decides enclosed_ends ts left x (front_within enclosed factored_enclosed ts x left enclosed_same.back s)

one_front : (ts rest more : List Token) (one other : List Arg × Token) → SpellsFront enclosed ts one rest → SpellsFront enclosed ts other more → one ≡ other
one_front ts rest more one other s t =
    let both : (let r : Outcome (List Arg × Token) = Ok (one, rest) in r) ≡ Ok (other, more) = sym (read_front ts rest one s) ∙ read_front ts more other t in
    let pair : (let p : (List Arg × Token) × List Token = (one, rest) in p) ≡ (other, more) = cc in
    ap (λ (p : (List Arg × Token) × List Token). p.0) pair

pub one_schema_at : (text : List ℕ) (from : ℕ) (one other : Schema × ℕ) → DeclaresAt text from one.0 one.1 → DeclaresAt text from other.0 other.1 → one ≡ other
one_schema_at text from one other d e =
    let same = one_front (tokens text from) d.rest e.rest (d.parts, d.closing) (e.parts, e.closing) d.spelled e.spelled in
    let schema : one.0 ≡ other.0 = d.declared ∙ (ap (λ (x : List Arg × Token). schema_of x.0) same ∙ sym e.declared) in
    let place : one.1 ≡ other.1 = d.place ∙ (ap (λ (x : List Arg × Token). (let t : Token = x.1 in t.place)) same ∙ sym e.place) in
    rw (schema, place) refl

pub one_refusal_at : (text : List ℕ) (from : ℕ) (one other : Refusal) → IsRefusalAt text from one → IsRefusalAt text from other → one ≡ other
one_refusal_at text from one other (inl h) (inl k) = h.1 ∙ sym k.1
one_refusal_at text from one other (inl h) (inr k) = absurd (omega (arith, h.0, k.0))
one_refusal_at text from one other (inr h) (inl k) = absurd (omega (arith, h.0, k.0))
one_refusal_at text from one other (inr (l, inl h)) (inr (m, inl k)) = h.2 ∙ (ap (λ (z : List Token). refusal_of (length text) z) (fails_once_inside enclosed (tokens text from) h.0 k.0 h.1 k.1) ∙ sym k.2)
one_refusal_at text from one other (inr (l, inl h)) (inr (m, inr k)) = absurd (let f = h.1 in let s = k.2 in f.none s.front k.1 k.0 s.whole s.spelled)
one_refusal_at text from one other (inr (l, inr h)) (inr (m, inl k)) = absurd (let f = k.1 in let s = h.2 in f.none s.front h.1 h.0 s.whole s.spelled)
one_refusal_at text from one other (inr (l, inr h)) (inr (m, inr k)) =
    one_rule h.0.0 k.0.0 one other (ap (λ (x : List Arg × Token). x.0) (one_front (tokens text from) h.1 k.1 h.0 k.0 h.2 k.2)) h.3 k.3

pub never_both_at : (text : List ℕ) (from : ℕ) (one : Schema × ℕ) (refusal : Refusal) → DeclaresAt text from one.0 one.1 → IsRefusalAt text from refusal → ⊥
never_both_at text from one refusal d (inl h) = omega (arith, d.within, h.0)
never_both_at text from one refusal d (inr (l, inl h)) = (let f = h.1 in let s = d.spelled in f.none s.front d.rest (d.parts, d.closing) s.whole s.spelled)
never_both_at text from one refusal d (inr (l, inr h)) =
    no_rule d.parts h.0.0 refusal (ap (λ (x : List Arg × Token). x.0) (one_front (tokens text from) d.rest h.1 (d.parts, d.closing) h.0 d.spelled h.2)) d.rules h.3
