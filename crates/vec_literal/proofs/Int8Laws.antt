-- An int8 literal: what the reader answers to a text, and that no byte of a literal is a quote.
use Rattle.std.proofs.Common.{◌≡◌, ℕ, ◌+◌, ◌<◌, ◌≤◌, length, take, drop, get_or, Result, Ok, Err, eqb, true, false, not, inl, inr, List, [], ◌∷◌, ◌++◌, Option, Some, None, refl, sym, ◌∙◌, ap, subst, append_assoc, arith}
use Rattle.std.specs.Result.{result_unwrap_or}
use Rattle.std.specs.Prelude.{ℤ, pos, ◌-ℤ◌, ◌⊎◌, ◌==◌, IfOk, IfErr}
use Rattle.std.specs.List.{list_all}
use Rattle.std.specs.Option.{option_and_then}
use Rattle.std.proofs.lemmas.Bool.{eqb-true, and_from, not_from_false, cases_Bool, cases_lt}
use Rattle.std.proofs.lemmas.List.{append-nil, at_drop_more, take-append-drop, take_all, take_more, take-take, get_or-take, length-take-le}
use Rattle.vec_base.specs.Answers.{IsExactAnswer, Answers as Given, Refuses}
use Rattle.vec_literal.specs.Faults.{IsInt8Fault}
use Rattle.vec_literal.specs.Int8.{SpellsList, SpellsInt8, SpellsNumber, IsInForm, CanGoOn, IsLongestStart}
use Rattle.vec_literal.specs.declared.int8.Stage.{Stage}
use Rattle.vec_literal.specs.declared.int8.Stage.TheVariants.{Start, Opened, Comma, Minus, Digits, Between, Closed}
use Rattle.vec_literal.specs.declared.int8.Reader.{Reader}
use Rattle.vec_literal.specs.declared.int8.LitFault.{LitFault}
use Rattle.vec_literal.specs.declared.int8.LitFault.TheVariants.{Place, Range, OddHex, Memory}
use Rattle.vec_literal.specs.inner.Int8Reading.{read_byte, read_bytes, reader_at, is_closed, outcome_of}
use Rattle.vec_literal.proofs.Int8Complete.{list_reads, moved}
use Rattle.vec_literal.proofs.Int8Elements.{bare_element, Awaits, opens_closed, listed_closed}
use Rattle.vec_literal.proofs.Int8Kept.{Kept, misfit_not_all, one_misfit}
use Rattle.vec_literal.proofs.Int8Sound.{Stands, number_listed, read_stands}

-- the reader of a text
abbrev pub Reads : List ℕ → Reader → Type 0
Reads text r = read_bytes (reader_at Start []) text ≡ Some r

-- equal optional readers
reader_in : Option Reader → Reader
reader_in (Some r) = r
reader_in None = reader_at Start []

same_reader : (r t : Reader) → Some r ≡ Some t → r ≡ t
unfolding reader_in
same_reader r t e = ap reader_in e

-- what a reader keeps, where the text has these elements
kept_of : (text : List ℕ) (zs : List ℤ) (r : Reader) → SpellsList text zs → Reads text r → (r.stage ≡ Closed) × Kept r.misfit r.vector zs
kept_of text zs r l e =
    let (t, kept, read) = list_reads text zs l in
    let same : moved t Closed ≡ r = same_reader (moved t Closed) r (sym read ∙ e) in
    subst (λ (u : Reader). (u.stage ≡ Closed) × Kept u.misfit u.vector zs) same (refl, kept)

-- no reader: a byte was refused
abbrev pub no_reader : Option Reader
no_reader = None

-- a quote fits at no stage
quote_refused : (m : Option ℕ) (s : Stage) (v : List ℕ) → read_byte (record { stage = s; vector = v; misfit = m }) 39 ≡ no_reader
quote_refused m Start v = refl
quote_refused m Opened v = refl
quote_refused m Comma v = refl
quote_refused m Minus v = refl
quote_refused m (Digits n) v = refl
quote_refused m Between v = refl
quote_refused m Closed v = refl

quote_ends : (r : Reader) (bs : List ℕ) → read_bytes r (39 ∷ bs) ≡ no_reader
quote_ends r bs = ap (λ (o : Option Reader). option_and_then (λ next. read_bytes next bs) o) (quote_refused r.misfit r.stage r.vector)

-- so no byte that is read is a quote
not_quote : (b : ℕ) (bs : List ℕ) (r t : Reader) → read_bytes r (b ∷ bs) ≡ Some t → not (b == 39) ≡ true
not_quote b bs r t e =
    elim (cases_Bool (eqb b 39)) [
      | inl h ↦
          let at_quote : read_bytes r (39 ∷ bs) ≡ Some t = subst (λ (c : ℕ). read_bytes r (c ∷ bs) ≡ Some t) (eqb-true b 39 h) e in
          let none : no_reader ≡ Some t = sym (quote_ends r bs) ∙ at_quote in
          absurd cc
      | inr h ↦ not_from_false (eqb b 39) h
    ]

then_no_quote : (o : Option Reader) (bs : List ℕ) (t : Reader) → ((next : Reader) → read_bytes next bs ≡ Some t → list_all (λ b. not (b == 39)) bs ≡ true) →
    option_and_then (λ next. read_bytes next bs) o ≡ Some t → list_all (λ b. not (b == 39)) bs ≡ true
then_no_quote (Some next) bs t h e = h next e
then_no_quote None bs t h e = absurd (let none : no_reader ≡ Some t = e in cc)

read_no_quote : (bs : List ℕ) (r t : Reader) → read_bytes r bs ≡ Some t → list_all (λ b. not (b == 39)) bs ≡ true
read_no_quote [] r t e = refl
read_no_quote (b ∷ bs) r t e = and_from _ _ (not_quote b bs r t e) (then_no_quote (read_byte r b) bs t (λ next k. read_no_quote bs next t k) e)

-- no byte of a literal is a quote
pub no_quote : (text v : List ℕ) → SpellsInt8 text v → list_all (λ b. not (b == 39)) text ≡ true
no_quote text v h =
    let (t, kept, read) = list_reads text h.elements h.list in
    read_no_quote text (reader_at Start []) (moved t Closed) read

-- reading a text and then more

then_more : (o : Option Reader) (p q : List ℕ) (t : Reader) → ((u : Reader) → read_bytes u p ≡ Some t → read_bytes u (p ++ q) ≡ read_bytes t q) →
    option_and_then (λ next. read_bytes next p) o ≡ Some t → option_and_then (λ next. read_bytes next (p ++ q)) o ≡ read_bytes t q
then_more (Some u) p q t h e = h u e
then_more None p q t h e = absurd (let none : no_reader ≡ Some t = e in cc)

pub read_more : (p q : List ℕ) (r t : Reader) → read_bytes r p ≡ Some t → read_bytes r (p ++ q) ≡ read_bytes t q
read_more [] q r t e = ap (λ (u : Reader). read_bytes u q) (same_reader r t e)
read_more (b ∷ p) q r t e = then_more (read_byte r b) p q t (λ u k. read_more p q u t k) e

then_begun : (o : Option Reader) (p q : List ℕ) (t : Reader) → ((u : Reader) → read_bytes u (p ++ q) ≡ Some t → (w : Reader) × (read_bytes u p ≡ Some w)) →
    option_and_then (λ next. read_bytes next (p ++ q)) o ≡ Some t → (w : Reader) × (option_and_then (λ next. read_bytes next p) o ≡ Some w)
then_begun (Some u) p q t h e = h u e
then_begun None p q t h e = absurd (let none : no_reader ≡ Some t = e in cc)

read_begun : (p q : List ℕ) (r t : Reader) → read_bytes r (p ++ q) ≡ Some t → (w : Reader) × (read_bytes r p ≡ Some w)
read_begun [] q r t e = (r, refl)
read_begun (b ∷ p) q r t e = then_begun (read_byte r b) p q t (λ u k. read_begun p q u t k) e

-- one byte more of a text
pub reads_on_by : (start : Reader) (text : List ℕ) (r t : Reader) (i : ℕ) → i < length text → read_bytes start (take i text) ≡ Some r → read_byte r (get_or text i 0) ≡ Some t → read_bytes start (take (i + 1) text) ≡ Some t
reads_on_by start text r t i h e k =
    ap (λ (x : List ℕ). read_bytes start x) (take_more text i 0 h)
    ∙ read_more (take i text) (get_or text i 0 ∷ []) start r e
    ∙ ap (λ (o : Option Reader). option_and_then (λ next. read_bytes next []) o) k

pub reads_next : (text : List ℕ) (r t : Reader) (i : ℕ) → i < length text → Reads (take i text) r → read_byte r (get_or text i 0) ≡ Some t → Reads (take (i + 1) text) t
reads_next text r t i h e k = reads_on_by (reader_at Start []) text r t i h e k

-- the texts that can go on are those that are read

zero_due : (p q : List ℕ) (zs : List ℤ) (sign : List ℕ) (z : ℤ) → p ≡ q ++ sign → Awaits q zs → SpellsNumber (sign ++ 48 ∷ []) z → CanGoOn p
zero_due p q zs sign z e a h =
    let t : List ℕ = sign ++ 48 ∷ [] in
    let closed : SpellsList ((q ++ t) ++ 93 ∷ []) (zs ++ z ∷ []) = listed_closed (q ++ t) (zs ++ z ∷ []) (a.then_listed t z (bare_element t z h)) in
    let same : (q ++ t) ++ 93 ∷ [] ≡ p ++ 48 ∷ 93 ∷ [] =
    append_assoc q t (93 ∷ []) ∙ ap (λ (x : List ℕ). q ++ x) (append_assoc sign (48 ∷ []) (93 ∷ [])) ∙ sym (append_assoc q sign (48 ∷ 93 ∷ [])) ∙ ap (λ (x : List ℕ). x ++ 48 ∷ 93 ∷ []) (sym e) in
    (48 ∷ 93 ∷ [], (zs ++ z ∷ [], subst (λ (x : List ℕ). SpellsList x (zs ++ z ∷ [])) same closed))

stands_go_on : (s : Stage) (p : List ℕ) (zs : List ℤ) → Stands s p zs → CanGoOn p
stands_go_on Start p zs h =
    (91 ∷ 93 ∷ [], ([], record { before = p; inside = []; after = []; whole = refl; blank_before = h.1; elements = inl (refl, refl); blank_after = refl }))
stands_go_on Opened p zs h = (93 ∷ [], ([], opens_closed p h.1))
stands_go_on Comma p zs h = zero_due p p zs [] (pos 0) (sym (append-nil p)) h (48 ∷ [], refl, inl (refl, refl))
stands_go_on Minus p zs h = zero_due p h.before zs (45 ∷ []) (pos 0 -ℤ pos 0) h.whole h.due (48 ∷ [], refl, inr (refl, refl))
stands_go_on (Digits n) p zs h = (93 ∷ [], (_, listed_closed p _ (number_listed n p zs h)))
stands_go_on Between p zs h = (93 ∷ [], (zs, listed_closed p zs h))
stands_go_on Closed p zs h = ([], (zs, subst (λ (x : List ℕ). SpellsList x zs) (sym (append-nil p)) h))

read_goes_on : (p : List ℕ) (r : Reader) → Reads p r → CanGoOn p
read_goes_on p r e = let (zs, stands, kept) = read_stands p r e in stands_go_on r.stage p zs stands

going_on_reads : (p : List ℕ) → CanGoOn p → (r : Reader) × Reads p r
going_on_reads p (more, (zs, l)) =
    let (t, kept, read) = list_reads (p ++ more) zs l in
    read_begun p more (reader_at Start []) (moved t Closed) read

in_form_goes_on : (text : List ℕ) → IsInForm text → CanGoOn (take (length text) text)
in_form_goes_on text (zs, l) =
    subst CanGoOn (sym (take_all (length text) text (omega arith))) ([], (zs, subst (λ (x : List ℕ). SpellsList x zs) (sym (append-nil text)) l))

-- where a byte is refused, no longer beginning can go on

refused_ends : (text : List ℕ) (r : Reader) (n m : ℕ) → n < m → m ≤ length text → Reads (take n text) r → read_byte r (get_or text n 0) ≡ no_reader → CanGoOn (take m text) → ⊥
refused_ends text r n m less within e none go =
    let p : List ℕ = take m text in
    let (u, read) = going_on_reads p go in
    let count : length p ≡ m = length-take-le m text within in
    let begun : take n p ≡ take n text = take-take n m text (omega arith) in
    let split : take n text ++ drop n p ≡ p = ap (λ (x : List ℕ). x ++ drop n p) (sym begun) ∙ take-append-drop n p in
    let behind : read_bytes r (drop n p) ≡ Some u = sym (read_more (take n text) (drop n p) (reader_at Start []) r e) ∙ ap (λ (x : List ℕ). read_bytes (reader_at Start []) x) split ∙ read in
    let next : read_bytes r (drop n p) ≡ read_bytes r (get_or p n 0 ∷ drop (n + 1) p) = at_drop_more (read_bytes r) p n 0 (omega (arith, count, less)) in
    let refused : read_byte r (get_or p n 0) ≡ no_reader = ap (λ (b : ℕ). read_byte r b) (get_or-take m text n 0 less) ∙ none in
    let both : no_reader ≡ Some u = sym (ap (λ (o : Option Reader). option_and_then (λ next. read_bytes next (drop (n + 1) p)) o) refused) ∙ sym next ∙ behind in
    cc

refused_longest : (text : List ℕ) (r : Reader) (n : ℕ) → n < length text → Reads (take n text) r → read_byte r (get_or text n 0) ≡ no_reader → IsLongestStart text n
refused_longest text r n h e none = record {
  within = omega (arith, h);
  goes_on = read_goes_on (take n text) r e;
  longest = λ m within go. elim (cases_lt n m) [ inl less ↦ absurd (refused_ends text r n m less within e none go) | inr other ↦ omega (arith, other) ];
}

-- a text that is read can go on as a whole
whole_longest : (text : List ℕ) (r : Reader) → Reads text r → IsLongestStart text (length text)
whole_longest text r e = record {
  within = omega arith;
  goes_on = subst CanGoOn (sym (take_all (length text) text (omega arith))) (read_goes_on text r e);
  longest = λ m within go. within;
}

one_longest : (text : List ℕ) (n m : ℕ) → IsLongestStart text n → IsLongestStart text m → n ≡ m
one_longest text n m h k =
    let less = k.longest n h.within h.goes_on in
    let more = h.longest m k.within k.goes_on in
    omega (arith, less, more)

-- what the text spells or its fault is answered, and nothing else
abbrev pub Answers : List ℕ → Result (List ℕ) LitFault → Type 0
Answers text result = IsExactAnswer Memory (λ vector. SpellsInt8 text vector) (λ fault. IsInt8Fault text fault) result

-- a text that is not in the form
place_only : (text : List ℕ) (n : ℕ) → (IsInForm text → ⊥) → IsLongestStart text n → (f : LitFault) → IsInt8Fault text f → Refuses {A = List ℕ} Memory (Err (Place n)) f
place_only text n out h (Place m) k = inl (ap (λ (i : ℕ). Err (Place i)) (one_longest text n m h k.1))
place_only text n out h (Range i) k = absurd (out (k.0, k.1))
place_only text n out h OddHex k = absurd k
place_only text n out h Memory k = absurd k

place_answers : (text : List ℕ) (n : ℕ) → (IsInForm text → ⊥) → IsLongestStart text n → Answers text (Err (Place n))
place_answers text n out h = record {
  value = tt;
  error = inr (out, h);
  only_value = λ v s. absurd (out (s.elements, s.list));
  only_error = place_only text n out h;
}

pub refused_answers : (text : List ℕ) (r : Reader) (n : ℕ) → n < length text → Reads (take n text) r → read_byte r (get_or text n 0) ≡ no_reader → Answers text (Err (Place n))
refused_answers text r n h e none =
    let longest = refused_longest text r n h e none in
    place_answers text n (λ form. let most = longest.longest (length text) (omega arith) (in_form_goes_on text form) in omega (arith, most, h)) longest

-- a text in the form with an element that does not fit
range_only : (text v : List ℕ) (i : ℕ) (zs : List ℤ) → Reads text (record { stage = Closed; vector = v; misfit = Some i }) → SpellsList text zs → (f : LitFault) → IsInt8Fault text f → Refuses {A = List ℕ} Memory (Err (Range i)) f
range_only text v i zs e l (Place m) k = absurd (k.0 (zs, l))
range_only text v i zs e l (Range j) (ys, list, first) = inl (ap (λ (n : ℕ). Err (Range n)) (one_misfit ys i j (kept_of text ys _ list e).1 first))
range_only text v i zs e l OddHex k = absurd k
range_only text v i zs e l Memory k = absurd k

range_answers : (text v : List ℕ) (i : ℕ) → Reads text (record { stage = Closed; vector = v; misfit = Some i }) → Answers text (Err (Range i))
range_answers text v i e =
    let (zs, stands, kept) = read_stands text _ e in
    record {
      value = tt;
      error = inr (zs, stands, kept);
      only_value = λ w s. absurd (misfit_not_all s.elements i (kept_of text s.elements _ s.list e).1 s.fit);
      only_error = range_only text v i zs e stands;
    }

-- a text that spells a vector
ok_only : (text v : List ℕ) (zs : List ℤ) → Reads text (reader_at Closed v) → SpellsList text zs → (f : LitFault) → IsInt8Fault text f → Refuses {A = List ℕ} Memory (Ok v) f
ok_only text v zs e l (Place m) k = absurd (k.0 (zs, l))
ok_only text v zs e l (Range j) (ys, list, first) = absurd (misfit_not_all ys j first (kept_of text ys _ list e).1.0)
ok_only text v zs e l OddHex k = absurd k
ok_only text v zs e l Memory k = absurd k

pub ok_answers : (text v : List ℕ) → Reads text (reader_at Closed v) → Answers text (Ok v)
ok_answers text v e =
    let (zs, stands, kept) = read_stands text _ e in
    record {
      value = record { elements = zs; list = stands; fit = kept.0; bytes = kept.1 };
      error = tt;
      only_value = λ w s. inl (ap Ok ((kept_of text s.elements _ s.list e).1.1 ∙ sym s.bytes));
      only_error = ok_only text v zs e stands;
    }

-- a text that ends before its list is closed
open_answers : (text : List ℕ) (r : Reader) → is_closed r.stage ≡ false → Reads text r → Answers text (Err (Place (length text)))
open_answers text r h e =
    place_answers text (length text)
    (λ form. let closed = (kept_of text form.0 r form.1 e).0 in let yes : is_closed r.stage ≡ true = ap is_closed closed in absurd (cc (sym yes ∙ h)))
    (whole_longest text r e)

-- the end of the text
pub end_answers : (m : Option ℕ) (s : Stage) (v text : List ℕ) → Reads text (record { stage = s; vector = v; misfit = m }) → Answers text (outcome_of (record { stage = s; vector = v; misfit = m }) (length text))
end_answers None Closed v text e = ok_answers text v e
end_answers (Some i) Closed v text e = range_answers text v i e
end_answers m Start v text e = open_answers text _ refl e
end_answers m Opened v text e = open_answers text _ refl e
end_answers m Comma v text e = open_answers text _ refl e
end_answers m Minus v text e = open_answers text _ refl e
end_answers m (Digits n) v text e = open_answers text _ refl e
end_answers m Between v text e = open_answers text _ refl e

pub whole_answers : (text : List ℕ) (r : Reader) (i : ℕ) (result : Result (List ℕ) LitFault) → length text ≤ i → Reads (take i text) r → result ≡ outcome_of r (length text) → Answers text result
whole_answers text r i result h e k =
    let read : Reads text r = subst (λ (x : List ℕ). Reads x r) (take_all i text h) e in
    subst (λ (x : Result (List ℕ) LitFault). Answers text x) (sym k) (end_answers r.misfit r.stage r.vector text read)

-- the fault of an answer that is one
pub fault_of_answer : (text : List ℕ) (f : LitFault) → Answers text (Err f) → (f ≡ Memory → ⊥) → IsInt8Fault text f
fault_of_answer text f h other = elim h.error [ inl memory ↦ absurd (other memory) | inr told ↦ told ]

-- no text spells two vectors

answered_vector : (read vector : List ℕ) → Given Memory (Ok read) vector → read ≡ vector
answered_vector read vector (inl same) = ap (λ (q : Result (List ℕ) LitFault). result_unwrap_or q []) same
answered_vector read vector (inr other) = absurd (cc other)

misfit_gives_none : (index : ℕ) (vector : List ℕ) → Given {A = List ℕ} Memory (Err (Range index)) vector → ⊥
misfit_gives_none index vector (inl other) = cc other
misfit_gives_none index vector (inr other) = cc other

one_closed : (m : Option ℕ) (read text v w : List ℕ) → Reads text (record { stage = Closed; vector = read; misfit = m }) → SpellsInt8 text v → SpellsInt8 text w → v ≡ w
one_closed None read text v w e s t = let a = ok_answers text read e in sym (answered_vector read v (a.only_value v s)) ∙ answered_vector read w (a.only_value w t)
one_closed (Some i) read text v w e s t = absurd (misfit_gives_none i v ((range_answers text read i e).only_value v s))

pub one_vector : (text v w : List ℕ) → SpellsInt8 text v → SpellsInt8 text w → v ≡ w
one_vector text v w s t =
    let (r, kept, read) = list_reads text s.elements s.list in
    one_closed (moved r Closed).misfit (moved r Closed).vector text v w read s t
