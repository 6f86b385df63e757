-- Parts in braces, read by a loop.
use Rattle.std.proofs.Common.{◌≡◌, ℕ, zero, suc, ◌<◌, ◌≤◌, Bool, true, false, cond, List, [], ◌∷◌, ◌++◌, length, Result, Ok, Err, refl, sym, ◌∙◌, ap, subst, arith, append_assoc, length-append, append-nil}
use Rattle.std.specs.List.{list_all}
use Rattle.std.proofs.lemmas.Bool.{cond-true, cond-false, and_from}
use Rattle.std.proofs.lemmas.List.Folds.{list_all-append}
use Rattle.vec_literal.specs.Tokens.{Token}
use Rattle.grammar.specs.Grammar.{Part, seq, many, means, Spells, SpellsFront, FailsAt, FailsInside}
use Rattle.grammar.specs.inner.Reading.{Outcome, ◌>>=◌, nullable, nexts, next_in, starts, read_many, read, ended, decides}
use Rattle.grammar.specs.inner.ReaderResults.{Gives}
use Rattle.grammar.specs.declared.reader.Stop.{Stop}
use Rattle.grammar.specs.declared.reader.Stop.TheVariants as stops
use Rattle.grammar.proofs.Laws.{sound, spelled_something, complete, err_begins, begun_left, Left, err_left, ended_ok, ended_err, one_value}

-- what was read stands before what reading gives
abbrev pub with_front : {A : Type 0} → List A → Outcome (List A) → Outcome (List A)
with_front front (Ok x) = Ok (front ++ x.0, x.1)
with_front front (Err e) = Err e

-- a part that can't be empty takes a token
pub takes_some : {A : Type 0} (p : Part A) → nullable p ≡ false → (ts : List Token) (x : A × List Token) → read p ts ≡ Ok x → length x.1 < length ts
takes_some p n ts x e =
    let t = sound p ts x e in
    let some = spelled_something p t.front x.0 n t.taken in
    omega (arith, ap length t.whole, length-append t.front x.1, ap length some.2)

abbrev round : {A : Type 0} → Part A → ℕ → List Token → Outcome (List A)
round p n ts = read_many (λ us. starts p us) (λ us. read p us) n ts

bind_same : {A B : Type 0} (r : Outcome A) (f g : A × List Token → Outcome B) → ((x : A × List Token) → r ≡ Ok x → f x ≡ g x) → (r >>= f) ≡ (r >>= g)
bind_same (Ok x) f g h = h x refl
bind_same (Err e) f g h = refl

round_nothing : {A : Type 0} (p : Part A) (n : ℕ) → round p n [] ≡ Ok ([], [])
round_nothing p zero = refl
round_nothing p (suc n) = refl

empty_list : (ts : List Token) → length ts ≤ 0 → ts ≡ []
empty_list [] h = refl
empty_list (t ∷ ts) h = absurd (omega arith)

-- enough rounds are as good as more
round_fuel : {A : Type 0} (p : Part A) → nullable p ≡ false → (n m : ℕ) (ts : List Token) → length ts ≤ n → length ts ≤ m → round p n ts ≡ round p m ts
round_fuel p u zero m ts k l = ap (λ (z : List Token). round p 0 z) (empty_list ts k) ∙ (sym (round_nothing p m) ∙ ap (λ (z : List Token). round p m z) (sym (empty_list ts k)))
round_fuel p u (suc n) zero ts k l = ap (λ (z : List Token). round p (suc n) z) (empty_list ts l) ∙ ap (λ (z : List Token). round p 0 z) (sym (empty_list ts l))
round_fuel {A} p u (suc n) (suc m) ts k l =
    ap (λ (z : Outcome (List A)). cond (starts p ts) z (Ok ([], ts)))
    (bind_same (read p ts) _ _ (λ x e. (let fewer : length x.1 < length ts = takes_some p u ts x e in
    ap (λ (z : Outcome (List A)). (let w : Outcome (List A) = z >>= λ xs. Ok (x.0 ∷ xs.0, xs.1) in w)) (round_fuel p u n m x.1 (omega arith) (omega arith)))))

front_cons : {A : Type 0} (front : List A) (v : A) (r : Outcome (List A)) → with_front front (r >>= λ xs. Ok (v ∷ xs.0, xs.1)) ≡ with_front (front ++ v ∷ []) r
front_cons {A} front v (Ok x) = ap (λ (z : List A). (let r : Outcome (List A) = Ok (z, x.1) in r)) (sym (append_assoc front (v ∷ []) x.0))
front_cons front v (Err e) = refl

bind_at : {A B : Type 0} (r : Outcome A) (x : A × List Token) (f : A × List Token → Outcome B) → r ≡ Ok x → (r >>= f) ≡ f x
bind_at {A} r x f e = ap (λ (z : Outcome A). z >>= f) e

bind_fail : {A B : Type 0} (r : Outcome A) (rest : List Token) (f : A × List Token → Outcome B) → r ≡ Err rest → (r >>= f) ≡ Err rest
bind_fail {A} r rest f e = ap (λ (z : Outcome A). z >>= f) e

-- one more round
pub many_step : {A : Type 0} (p : Part A) → nullable p ≡ false → (front : List A) (ts rest : List Token) (v : A) → starts p ts ≡ true → read p ts ≡ Ok (v, rest) →
    with_front front (read (many p) ts) ≡ with_front (front ++ v ∷ []) (read (many p) rest)
many_step p u front [] rest v s e = absurd cc
many_step {A} p u front (t ∷ us) rest v s e =
    let fewer : length rest < length (t ∷ us) = takes_some p u (t ∷ us) (v, rest) e in
    ap (λ (z : Outcome (List A)). with_front front z)
    (cond-true (starts p (t ∷ us)) _ _ s ∙
    (bind_at (read p (t ∷ us)) (v, rest) _ e ∙
    ap (λ (z : Outcome (List A)). (let w : Outcome (List A) = z >>= λ xs. Ok (v ∷ xs.0, xs.1) in w)) (round_fuel p u (length us) (length rest) rest (omega arith) (omega arith)))) ∙
    front_cons front v (read (many p) rest)

-- what holds of each item holds of the list with one item more
pub all_pushed : {A : Type 0} (f : A → Bool) (front whole : List A) (v : A) → whole ≡ front ++ v ∷ [] → list_all f front ≡ true → f v ≡ true → list_all f whole ≡ true
all_pushed {A} f front whole v e h k = ap (λ (z : List A). list_all f z) e ∙ (list_all-append f front (v ∷ []) ∙ and_from _ _ h (and_from _ _ k refl))

-- the whole text

pub whole_found : {A : Type 0} (p : Part A) (ts left : List Token) (v : A) → read p ts ≡ Ok (v, left) → left ≡ [] → Spells p ts v
whole_found {A} p ts left v e n = ended_ok p ts v (ap (λ (z : Outcome A). ended z) e ∙ ap (λ (z : List Token). ended (let r : Outcome A = Ok (v, z) in r)) n)

pub whole_only : {A : Type 0} (p : Part A) → decides p ≡ true → (ts left : List Token) (v w : A) → read p ts ≡ Ok (v, left) → left ≡ [] → Spells p ts w → v ≡ w
whole_only {A} p d ts left v w e n s = one_value p d ts v w (whole_found p ts left v e n) s

ended_more : {A : Type 0} (v : A) (left : List Token) → (left ≡ [] → ⊥) → ended (let r : Outcome A = Ok (v, left) in r) ≡ Err left
ended_more v [] n = absurd (n refl)
ended_more v (t ∷ us) n = refl

pub more_fails : {A : Type 0} (p : Part A) → decides p ≡ true → (ts left : List Token) (v : A) → read p ts ≡ Ok (v, left) → (left ≡ [] → ⊥) → FailsAt p ts left
more_fails {A} p d ts left v e n = ended_err p d ts left (ap (λ (z : Outcome A). ended z) e ∙ ended_more v left n)

pub err_fails : {A : Type 0} (p : Part A) → decides p ≡ true → (ts left : List Token) → read p ts ≡ Err left → FailsAt p ts left
err_fails {A} p d ts left e = ended_err p d ts left (ap (λ (z : Outcome A). ended z) e)

-- the beginning of a text

pub front_found : {A : Type 0} (p : Part A) (ts left : List Token) (v : A) → read p ts ≡ Ok (v, left) → SpellsFront p ts v left
front_found p ts left v e = let t = sound p ts (v, left) e in record { front = t.front; whole = t.whole; spelled = t.taken }

-- what may stand behind the part is not of it, so it ends where its spelling does
pub front_only : {A : Type 0} (p : Part A) → decides p ≡ true → ((ts : List Token) → next_in (nexts p) ts ≡ false) → (ts rest : List Token) (v : A) → SpellsFront p ts v rest → read p ts ≡ Ok (v, rest)
front_only p d n ts rest v s = ap (λ (z : List Token). read p z) s.whole ∙ complete p d s.front rest v s.spelled (n rest)

pub front_fails : {A : Type 0} (p : Part A) → decides p ≡ true → ((ts : List Token) → next_in (nexts p) ts ≡ false) → (ts left : List Token) → read p ts ≡ Err left → FailsInside p ts left
front_fails {A} p d n ts left e =
    let t = err_begins p ts left e in
    record {
      front = t.front;
      whole = t.whole;
      begins = t.taken;
      longest = λ w more q b. (let fewer : length left ≤ length more = err_left (read p ts) left more e (subst (λ (z : List Token). Left (read p z) more) (sym q) (begun_left p d w more b)) in
          omega (arith, ap length t.whole, length-append t.front left, ap length q, length-append w more));
      none = λ w more v q s. (let k : read p ts ≡ Ok (v, more) = front_only p d n ts more v (record { front = w; whole = q; spelled = s }) in (let no = sym k ∙ e in absurd cc));
    }
