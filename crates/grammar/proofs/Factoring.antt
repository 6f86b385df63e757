-- Equal beginnings taken together. A grammar's line is read by another line, whose choices the next token decides: the
-- two have the same spellings, values and beginnings.
use Rattle.std.proofs.Common.{◌≡◌, inl, inr, List, [], ◌∷◌, ◌++◌, Option, Some, None, refl, sym, ◌∙◌, ap, subst, append-nil}
use Rattle.vec_literal.specs.Tokens.{Token}
use Rattle.grammar.specs.Grammar.{Part, seq, alt, opt, many, means, ◌▸◌, ◌◂◌, Spells, Begins, Repeats, FailsAt, FailsInside, SpellsFront, or_default}

-- what spells or begins p does so for q
pub record Within {A : Type 0} (p q : Part A) : Type 0 where
  pub spelled : (ts : List Token) (v : A) → Spells p ts v → Spells q ts v
  pub begun : (ts : List Token) → Begins p ts → Begins q ts

pub record Same {A : Type 0} (p q : Part A) : Type 0 where
  pub there : Within p q
  pub back : Within q p

-- the failing token is the same
pub same_fails : {A : Type 0} (p q : Part A) (ts rest : List Token) → Same p q → FailsAt p ts rest → FailsAt q ts rest
same_fails p q ts rest s f = record {
  front = f.front;
  whole = f.whole;
  begins = s.there.begun f.front f.begins;
  longest = λ w more e b. f.longest w more e (s.back.begun w b);
  none = λ v k. f.none v (s.back.spelled ts v k);
}

pub same_fails_inside : {A : Type 0} (p q : Part A) (ts rest : List Token) → Same p q → FailsInside p ts rest → FailsInside q ts rest
same_fails_inside p q ts rest s f = record {
  front = f.front;
  whole = f.whole;
  begins = s.there.begun f.front f.begins;
  longest = λ w more e b. f.longest w more e (s.back.begun w b);
  none = λ w more v e k. f.none w more v e (s.back.spelled w v k);
}

pub front_within : {A : Type 0} (p q : Part A) (ts : List Token) (v : A) (rest : List Token) → Within p q → SpellsFront p ts v rest → SpellsFront q ts v rest
front_within p q ts v rest s f = record { front = f.front; whole = f.whole; spelled = s.spelled f.front v f.spelled }

pub within_refl : {A : Type 0} (p : Part A) → Within p p
within_refl p = record { spelled = λ ts v s. s; begun = λ ts b. b }

pub within_trans : {A : Type 0} (p q r : Part A) → Within p q → Within q r → Within p r
within_trans p q r a b = record { spelled = λ ts v s. b.spelled ts v (a.spelled ts v s); begun = λ ts s. b.begun ts (a.begun ts s) }

-- choices

pub within_left : {A : Type 0} (p q : Part A) → Within p (alt p q)
within_left p q = record { spelled = λ ts v s. inl s; begun = λ ts s. inl s }

pub within_right : {A : Type 0} (p q : Part A) → Within q (alt p q)
within_right p q = record { spelled = λ ts v s. inr s; begun = λ ts s. inr s }

pub within_first : {A : Type 0} (p q r : Part A) → Within p q → Within p (alt q r)
within_first p q r a = within_trans p q (alt q r) a (within_left q r)

pub within_later : {A : Type 0} (p q r : Part A) → Within p r → Within p (alt q r)
within_later p q r a = within_trans p r (alt q r) a (within_right q r)

either_spelled : {A : Type 0} (p q r : Part A) → Within p r → Within q r → (ts : List Token) (v : A) → Spells (alt p q) ts v → Spells r ts v
either_spelled p q r a b ts v (inl s) = a.spelled ts v s
either_spelled p q r a b ts v (inr s) = b.spelled ts v s

either_begun : {A : Type 0} (p q r : Part A) → Within p r → Within q r → (ts : List Token) → Begins (alt p q) ts → Begins r ts
either_begun p q r a b ts (inl s) = a.begun ts s
either_begun p q r a b ts (inr s) = b.begun ts s

pub within_either : {A : Type 0} (p q r : Part A) → Within p r → Within q r → Within (alt p q) r
within_either p q r a b = record { spelled = either_spelled p q r a b; begun = either_begun p q r a b }

-- the forms of lines keep the order

pub within_means : {A B : Type 0} (f : A → B) (p q : Part A) → Within p q → Within (means f p) (means f q)
within_means f p q a = record { spelled = λ ts v s. (s.0, a.spelled ts s.0 s.1, s.2); begun = a.begun }

seq_begun : {A B : Type 0} (p p' : Part A) (q q' : Part B) → Within p p' → Within q q' → (ts : List Token) → Begins (seq p q) ts → Begins (seq p' q') ts
seq_begun p p' q q' a b ts (inl s) = inl (a.begun ts s)
seq_begun p p' q q' a b ts (inr s) = inr (record { front = s.front; rest = s.rest; whole = s.whole; first = (s.first.0, a.spelled s.front s.first.0 s.first.1); second = b.begun s.rest s.second })

seq_spelled : {A B : Type 0} (p p' : Part A) (q q' : Part B) → Within p p' → Within q q' → (ts : List Token) (v : A × B) → Spells (seq p q) ts v → Spells (seq p' q') ts v
seq_spelled p p' q q' a b ts v s = record { front = s.front; rest = s.rest; whole = s.whole; first = a.spelled s.front v.0 s.first; second = b.spelled s.rest v.1 s.second }

pub within_seq : {A B : Type 0} (p p' : Part A) (q q' : Part B) → Within p p' → Within q q' → Within (seq p q) (seq p' q')
within_seq p p' q q' a b = record { spelled = seq_spelled p p' q q' a b; begun = seq_begun p p' q q' a b }

-- p ▸ q
pub within_behind : {A B : Type 0} (p : Part A) (q q' : Part B) → Within q q' → Within (p ▸ q) (p ▸ q')
within_behind p q q' a = within_means (λ x. x.1) (seq p q) (seq p q') (within_seq p p q q' (within_refl p) a)

repeats_within : {A : Type 0} (p q : Part A) → Within p q → (vs : List A) (ts : List Token) → Repeats (Spells p) ts vs → Repeats (Spells q) ts vs
repeats_within p q a [] ts s = s
repeats_within p q a (v ∷ vs) ts s = record { front = s.front; rest = s.rest; whole = s.whole; first = a.spelled s.front v s.first; second = repeats_within p q a vs s.rest s.second }

pub within_many : {A : Type 0} (p q : Part A) → Within p q → Within (many p) (many q)
within_many p q a = record {
  spelled = λ ts vs s. repeats_within p q a vs ts s;
  begun = λ ts s. record { front = s.front; rest = s.rest; whole = s.whole; first = (s.first.0, repeats_within p q a s.first.0 s.front s.first.1); second = a.begun s.rest s.second };
}

-- equal beginnings

-- p (q | r) is p q | p r
spread_spelled : {A B C : Type 0} (f : A × B → C) (p : Part A) (q r : Part B) (s : Part C) → Within (means f (seq p q)) s → Within (means f (seq p r)) s →
    (ts : List Token) (v : C) → Spells (means f (seq p (alt q r))) ts v → Spells s ts v
spread_spelled f p q r s a b ts v x = let k = x.1 in elim k.second [
  | inl y ↦ a.spelled ts v (x.0, record { front = k.front; rest = k.rest; whole = k.whole; first = k.first; second = y }, x.2)
  | inr y ↦ b.spelled ts v (x.0, record { front = k.front; rest = k.rest; whole = k.whole; first = k.first; second = y }, x.2)
]

spread_begun : {A B C : Type 0} (f : A × B → C) (p : Part A) (q r : Part B) (s : Part C) → Within (means f (seq p q)) s → Within (means f (seq p r)) s →
    (ts : List Token) → Begins (seq p (alt q r)) ts → Begins s ts
spread_begun f p q r s a b ts (inl x) = a.begun ts (inl x)
spread_begun f p q r s a b ts (inr k) = elim k.second [
  | inl y ↦ a.begun ts (inr (record { front = k.front; rest = k.rest; whole = k.whole; first = k.first; second = y }))
  | inr y ↦ b.begun ts (inr (record { front = k.front; rest = k.rest; whole = k.whole; first = k.first; second = y }))
]

pub spread : {A B C : Type 0} (f : A × B → C) (p : Part A) (q r : Part B) (s : Part C) → Within (means f (seq p q)) s → Within (means f (seq p r)) s → Within (means f (seq p (alt q r))) s
spread f p q r s a b = record { spelled = spread_spelled f p q r s a b; begun = spread_begun f p q r s a b }

pub factor : {A B C : Type 0} (f : A × B → C) (p : Part A) (q r : Part B) → Same (alt (means f (seq p q)) (means f (seq p r))) (means f (seq p (alt q r)))
factor f p q r = record {
  there = within_either (means f (seq p q)) (means f (seq p r)) (means f (seq p (alt q r)))
      (within_means f (seq p q) (seq p (alt q r)) (within_seq p p q (alt q r) (within_refl p) (within_left q r)))
      (within_means f (seq p r) (seq p (alt q r)) (within_seq p p r (alt q r) (within_refl p) (within_right q r)));
  back = spread f p q r (alt (means f (seq p q)) (means f (seq p r))) (within_left (means f (seq p q)) (means f (seq p r))) (within_right (means f (seq p q)) (means f (seq p r)));
}

-- p | p q is p [q], where p alone means d
pub without_option : {A B : Type 0} (d : B) (p : Part A) (q : Part B) → Within (means (λ x. d) p) (means (or_default d) (p ▸ opt q))
without_option d p q = record {
  spelled = λ ts v s. (None, ((s.0, None), record { front = ts; rest = []; whole = sym (append-nil ts); first = s.1; second = refl }, refl), s.2);
  begun = λ ts b. inl b;
}

option_begun : {A B : Type 0} (p : Part A) (q : Part B) → (ts : List Token) → Begins (seq p q) ts → Begins (seq p (opt q)) ts
option_begun p q ts (inl b) = inl b
option_begun p q ts (inr s) = inr (record { front = s.front; rest = s.rest; whole = s.whole; first = s.first; second = s.second })

option_begun_back : {A B : Type 0} (p : Part A) (q : Part B) → (ts : List Token) → Begins (seq p (opt q)) ts → Begins (seq p q) ts
option_begun_back p q ts (inl b) = inl b
option_begun_back p q ts (inr s) = inr (record { front = s.front; rest = s.rest; whole = s.whole; first = s.first; second = s.second })

pub with_option : {A B : Type 0} (d : B) (p : Part A) (q : Part B) → Within (p ▸ q) (means (or_default d) (p ▸ opt q))
with_option d p q = record {
  spelled = λ ts v s. (Some v, ((s.0.0, Some v), record { front = s.1.front; rest = s.1.rest; whole = s.1.whole; first = s.1.first; second = subst (λ z. Spells q s.1.rest z) (sym s.2) s.1.second }, refl), refl);
  begun = option_begun p q;
}

option_cases : {A B : Type 0} (d : B) (p : Part A) (q : Part B) (r : Part B) → Within (means (λ x. d) p) r → Within (p ▸ q) r →
    (ts : List Token) (v : B) (x : A) (o : Option B) → Spells (seq p (opt q)) ts (x, o) → v ≡ or_default d o → Spells r ts v
option_cases d p q r a b ts v x None s e =
    a.spelled ts v (x, subst (λ (z : List Token). Spells p z x) (sym (s.whole ∙ (ap (λ (z : List Token). s.front ++ z) (let none : s.rest ≡ [] = s.second in none) ∙ append-nil s.front))) s.first, e)
option_cases d p q r a b ts v x (Some y) s e =
    b.spelled ts v ((x, y), record { front = s.front; rest = s.rest; whole = s.whole; first = s.first; second = s.second }, e)

pub option_parts : {A B : Type 0} (d : B) (p : Part A) (q : Part B) (r : Part B) → Within (means (λ x. d) p) r → Within (p ▸ q) r → Within (means (or_default d) (p ▸ opt q)) r
option_parts d p q r a b = record {
  spelled = λ ts v s. option_cases d p q r a b ts v s.1.0.0 s.1.0.1 s.1.1 (s.2 ∙ ap (λ z. or_default d z) s.1.2);
  begun = λ ts s. b.begun ts (option_begun_back p q ts s);
}

-- ---- sameness goes through the forms of lines

opt_spelled : {A : Type 0} (p q : Part A) → Within p q → (ts : List Token) (o : Option A) → Spells (opt p) ts o → Spells (opt q) ts o
opt_spelled p q a ts None s = s
opt_spelled p q a ts (Some v) s = a.spelled ts v s

pub within_opt : {A : Type 0} (p q : Part A) → Within p q → Within (opt p) (opt q)
within_opt p q a = record { spelled = opt_spelled p q a; begun = a.begun }

pub same_refl : {A : Type 0} (p : Part A) → Same p p
same_refl p = record { there = within_refl p; back = within_refl p }

pub same_means : {A B : Type 0} (f : A → B) (p q : Part A) → Same p q → Same (means f p) (means f q)
same_means f p q s = record { there = within_means f p q s.there; back = within_means f q p s.back }

pub same_seq : {A B : Type 0} (p p' : Part A) (q q' : Part B) → Same p p' → Same q q' → Same (seq p q) (seq p' q')
same_seq p p' q q' s t = record { there = within_seq p p' q q' s.there t.there; back = within_seq p' p q' q s.back t.back }

pub same_alt : {A : Type 0} (p p' q q' : Part A) → Same p p' → Same q q' → Same (alt p q) (alt p' q')
same_alt p p' q q' s t = record {
  there = within_either p q (alt p' q') (within_first p p' q' s.there) (within_later q p' q' t.there);
  back = within_either p' q' (alt p q) (within_first p' p q s.back) (within_later q' p q t.back);
}

pub same_opt : {A : Type 0} (p q : Part A) → Same p q → Same (opt p) (opt q)
same_opt p q s = record { there = within_opt p q s.there; back = within_opt q p s.back }

pub same_many : {A : Type 0} (p q : Part A) → Same p q → Same (many p) (many q)
same_many p q s = record { there = within_many p q s.there; back = within_many q p s.back }

-- p ▸ q and q ◂ p
pub same_behind : {A B : Type 0} (p : Part A) (q q' : Part B) → Same q q' → Same (p ▸ q) (p ▸ q')
same_behind p q q' s = same_means (λ x. x.1) (seq p q) (seq p q') (same_seq p p q q' (same_refl p) s)

pub same_before : {A B : Type 0} (p : Part A) (q q' : Part B) → Same q q' → Same (q ◂ p) (q' ◂ p)
same_before p q q' s = same_means (λ x. x.0) (seq q p) (seq q' p) (same_seq q q' p p s (same_refl p))
