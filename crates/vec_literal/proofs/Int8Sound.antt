-- What the reader reads is spelled.
use Rattle.std.proofs.Common.{◌≡◌, ℕ, ◌-◌, eqb, Bool, true, false, cond, List, [], ◌∷◌, ◌++◌, Option, Some, None, refl, sym, ◌∙◌, ap, subst, append_assoc, arith}
use Rattle.std.specs.Prelude.{ℤ, IfSome}
use Rattle.std.specs.Char.{is_ascii_digit}
use Rattle.std.specs.Option.{option_map, option_and_then}
use Rattle.std.specs.Str.Parse.{digits_value}
use Rattle.std.proofs.lemmas.Bool.{eqb-true, eqb-false, cond-true, cond-false}
use Rattle.std.proofs.lemmas.Bool.Decides.{nat_tests}
use Rattle.std.proofs.lemmas.List.{append-nil}
use Rattle.std.proofs.lemmas.List.Elements.{All-nil}
use Rattle.vec_literal.specs.Int8.{is_space, is_digits, IsBlank, SpellsList, IsElement}
use Rattle.vec_literal.specs.declared.int8.Number.{Number}
use Rattle.vec_literal.specs.declared.int8.Stage.{Stage}
use Rattle.vec_literal.specs.declared.int8.Stage.TheVariants.{Start, Opened, Comma, Minus, Digits, Between, Closed}
use Rattle.vec_literal.specs.declared.int8.Reader.{Reader}
use Rattle.vec_literal.specs.inner.Int8Reading.{byte_of, more_digits, first_digit, next_digit, number_start, after_element, stage_after, with_element, ended_in, ended, read_byte, read_bytes, reader_at}
use Rattle.vec_literal.proofs.Int8Elements.{bare_element, blank_more, Listed, Opens, Awaits, opens_awaits, opens_space, opens_closed, awaits_space, listed_comma, listed_space, listed_closed, list_space}
use Rattle.vec_literal.proofs.Int8Kept.{Shows, first_shows, digits_more, push_shows, sign, signed_value, signed_spelled, FitsAs, shown_fits, Kept, element_kept}

-- the text so far ends with a minus sign
pub record Signed (p : List ℕ) (zs : List ℤ) : Type 0 where
  pub before : List ℕ
  pub whole : p ≡ before ++ 45 ∷ []
  pub due : Awaits before zs

-- the text so far ends with a sign and digits, which the number shows
pub record Numbered (n : Number) (p : List ℕ) (zs : List ℤ) : Type 0 where
  pub before : List ℕ
  pub digits : List ℕ
  pub whole : p ≡ before ++ (sign n.negative ++ digits)
  pub due : Awaits before zs
  pub right : is_digits digits ≡ true
  pub shown : Shows n.magnitude (digits_value 10 digits)

-- what the text so far is at a stage, with the elements before it
abbrev pub Stands : Stage → List ℕ → List ℤ → Type 0
Stands Start p zs = (zs ≡ []) × IsBlank p
Stands Opened p zs = (zs ≡ []) × Opens p
Stands Comma p zs = Awaits p zs
Stands Minus p zs = Signed p zs
Stands (Digits n) p zs = Numbered n p zs
Stands Between p zs = Listed p zs
Stands Closed p zs = SpellsList p zs

-- a fact on the value of a choice, of a mapped value, and of the step after a value
by_if : {A : Type 0} (P : A → Type 0) (c : Bool) (x y : Option A) → (c ≡ true → IfSome x P) → (c ≡ false → IfSome y P) → IfSome (cond c x y) P
by_if P true x y h k = h refl
by_if P false x y h k = k refl

by_map : {A B : Type 0} (P : B → Type 0) (f : A → B) (o : Option A) (Q : A → Type 0) → IfSome o Q → ((x : A) → Q x → P (f x)) → IfSome (option_map f o) P
by_map P f (Some x) Q h k = k x h
by_map P f None Q h k = tt

by_then : {A B : Type 0} (P : B → Type 0) (f : A → Option B) (o : Option A) (Q : A → Type 0) → IfSome o Q → ((x : A) → Q x → IfSome (f x) P) → IfSome (option_and_then f o) P
by_then P f (Some x) Q h k = k x h
by_then P f None Q h k = tt

-- a digit is no white space
pub digit_is_no_space : (b : ℕ) → is_ascii_digit b ≡ true → is_space b ≡ true → ⊥
digit_is_no_space b h k = grind (arith, nat_tests)

-- one byte more, at each stage

at_byte : (P : ℕ → Type 0) (b c : ℕ) → eqb b c ≡ true → P c → P b
at_byte P b c h k = subst P (sym (eqb-true b c h)) k

first_step : (negative : Bool) (b : ℕ) (q p : List ℕ) (zs : List ℤ) → p ≡ q ++ sign negative → Awaits q zs → IfSome (first_digit negative b) (λ next. Stands next (p ++ b ∷ []) zs)
first_step negative b q p zs e a =
    let P : Stage → Type 0 = λ next. Stands next (p ++ b ∷ []) zs in
    by_if P (is_ascii_digit b) (Some (Digits (record { negative = negative; magnitude = b - 48 }))) None
    (λ h. record {
      before = q;
      digits = b ∷ [];
      whole = ap (λ (x : List ℕ). x ++ b ∷ []) e ∙ append_assoc q (sign negative) (b ∷ []);
      due = a;
      right = h;
      shown = first_shows b h;
    })
    (λ _. tt)

start_step : (b : ℕ) (p : List ℕ) (zs : List ℤ) → Awaits p zs → IfSome (number_start b) (λ next. Stands next (p ++ b ∷ []) zs)
start_step b p zs a =
    let P : Stage → Type 0 = λ next. Stands next (p ++ b ∷ []) zs in
    by_if P (eqb b 45) (Some Minus) (first_digit false b)
    (λ h. record { before = p; whole = ap (λ (c : ℕ). p ++ c ∷ []) (eqb-true b 45 h); due = a })
    (λ _. first_step false b p p zs (sym (append-nil p)) a)

between_step : (b : ℕ) (p : List ℕ) (zs : List ℤ) → Listed p zs → IfSome (stage_after Between b) (λ next. Stands next (p ++ b ∷ []) zs)
between_step b p zs l =
    let P : Stage → Type 0 = λ next. Stands next (p ++ b ∷ []) zs in
    by_if P (is_space b) (Some Between) (after_element b)
    (λ h. listed_space p zs b h l)
    (λ _. by_if P (eqb b 44) (Some Comma) (cond (eqb b 93) (Some Closed) None)
    (λ h. at_byte (λ c. Awaits (p ++ c ∷ []) zs) b 44 h (listed_comma p zs l))
    (λ _. by_if P (eqb b 93) (Some Closed) None
    (λ h. at_byte (λ c. SpellsList (p ++ c ∷ []) zs) b 93 h (listed_closed p zs l))
    (λ _. tt)))

-- a digit after a digit
digit_step : (n : Number) (b : ℕ) (p : List ℕ) (zs : List ℤ) → is_ascii_digit b ≡ true → Numbered n p zs → IfSome (next_digit n b) (λ next. Stands next (p ++ b ∷ []) zs)
digit_step n b p zs h l =
    let P : Stage → Type 0 = λ next. Stands next (p ++ b ∷ []) zs in
    by_if P (eqb n.magnitude 0) None (Some (Digits (record n { magnitude = more_digits n.magnitude b })))
    (λ _. tt)
    (λ k. record {
      before = l.before;
      digits = l.digits ++ b ∷ [];
      whole = ap (λ (x : List ℕ). x ++ b ∷ []) l.whole ∙ append_assoc l.before (sign n.negative ++ l.digits) (b ∷ []) ∙ ap (λ (x : List ℕ). l.before ++ x) (append_assoc (sign n.negative) l.digits (b ∷ []));
      due = l.due;
      right = digits_more n.magnitude l.digits b l.right (eqb-false n.magnitude 0 k) l.shown h;
      shown = push_shows n.magnitude l.digits b h l.shown;
    })

-- a digit is no white space, so it is read as a digit
in_digits : (n : Number) (b : ℕ) (p : List ℕ) (zs : List ℤ) → is_ascii_digit b ≡ true → Numbered n p zs → IfSome (stage_after (Digits n) b) (λ next. Stands next (p ++ b ∷ []) zs)
in_digits n b p zs h l =
    let P : Stage → Type 0 = λ next. Stands next (p ++ b ∷ []) zs in
    by_if P (is_space b) (Some Between) (cond (is_ascii_digit b) (next_digit n b) (after_element b))
    (λ k. absurd (digit_is_no_space b h k))
    (λ _. by_if P (is_ascii_digit b) (next_digit n b) (after_element b)
    (λ _. digit_step n b p zs h l)
    (λ k. absurd (let e : true ≡ false = sym h ∙ k in cc)))

-- a byte that ends a number is passed as behind an element
pub end_stage : (n : Number) (b : ℕ) → is_ascii_digit b ≡ false → stage_after (Digits n) b ≡ stage_after Between b
end_stage n b h = ap (λ (c : Bool). cond (is_space b) (Some Between) (cond c (next_digit n b) (after_element b))) h

-- a stage at which no number ends
abbrev pub ends_none : Stage → Bool
ends_none (Digits n) = false
ends_none _ = true

-- the stages at which no number ends
stage_step : (s : Stage) (b : ℕ) (p : List ℕ) (zs : List ℤ) → ends_none s ≡ true → Stands s p zs → IfSome (stage_after s b) (λ next. Stands next (p ++ b ∷ []) zs)
stage_step Start b p zs _ l =
    let P : Stage → Type 0 = λ next. Stands next (p ++ b ∷ []) zs in
    by_if P (is_space b) (Some Start) (cond (eqb b 91) (Some Opened) None)
    (λ h. (l.0, blank_more p b l.1 h))
    (λ _. by_if P (eqb b 91) (Some Opened) None
    (λ h. (l.0, record { before = p; inside = []; whole = ap (λ (c : ℕ). p ++ c ∷ []) (eqb-true b 91 h); blank = l.1; none = refl }))
    (λ _. tt))
stage_step Opened b p zs _ l =
    let P : Stage → Type 0 = λ next. Stands next (p ++ b ∷ []) zs in
    by_if P (is_space b) (Some Opened) (cond (eqb b 93) (Some Closed) (number_start b))
    (λ h. (l.0, opens_space p b h l.1))
    (λ _. by_if P (eqb b 93) (Some Closed) (number_start b)
    (λ h. at_byte (λ c. SpellsList (p ++ c ∷ []) zs) b 93 h (subst (λ (z : List ℤ). SpellsList (p ++ 93 ∷ []) z) (sym l.0) (opens_closed p l.1)))
    (λ _. start_step b p zs (subst (λ (z : List ℤ). Awaits p z) (sym l.0) (opens_awaits p l.1))))
stage_step Comma b p zs _ l =
    let P : Stage → Type 0 = λ next. Stands next (p ++ b ∷ []) zs in
    by_if P (is_space b) (Some Comma) (number_start b) (λ h. awaits_space p zs b h l) (λ _. start_step b p zs l)
stage_step Minus b p zs _ l =
    let P : Stage → Type 0 = λ next. Stands next (p ++ b ∷ []) zs in
    by_if P (is_space b) None (first_digit true b) (λ _. tt) (λ _. first_step true b l.before p zs l.whole l.due)
stage_step (Digits n) b p zs h l = absurd (let e : false ≡ true = h in cc)
stage_step Between b p zs _ l = between_step b p zs l
stage_step Closed b p zs _ l =
    let P : Stage → Type 0 = λ next. Stands next (p ++ b ∷ []) zs in
    by_if P (is_space b) (Some Closed) None (λ h. list_space p zs b h l) (λ _. tt)

-- what a reader has read: elements, of which it keeps what it needs
abbrev pub HasRead : Reader → List ℕ → Type 0
HasRead r p = (zs : List ℤ) × Stands r.stage p zs × Kept r.misfit r.vector zs

same_either : {A : Type 0} (c : Bool) (x y : A) → y ≡ x → cond c x y ≡ x
same_either true x y h = refl
same_either false x y h = h

-- the next stage, where the reader is otherwise as before
kept_step : (r : Reader) (b : ℕ) (p : List ℕ) (Q : Stage → Type 0) → ended r b ≡ r → IfSome (stage_after r.stage b) Q →
    ((next : Stage) → Q next → HasRead (record r { stage = next }) (p ++ b ∷ [])) → IfSome (read_byte r b) (λ t. HasRead t (p ++ b ∷ []))
kept_step r b p Q e h k =
    let P : Reader → Type 0 = λ t. HasRead t (p ++ b ∷ []) in
    subst (λ (x : Reader). IfSome (option_map (λ next. record x { stage = next }) (stage_after r.stage b)) P) (sym e) (by_map P (λ next. record r { stage = next }) (stage_after r.stage b) Q h k)

-- where no number ends, the reader's elements stay
ended_none : (r : Reader) (s : Stage) → ends_none s ≡ true → ended_in r s ≡ r
ended_none r (Digits n) h = absurd (let e : false ≡ true = h in cc)
ended_none r _ h = refl

-- the number that the text ends with is one element more
pub number_listed : (n : Number) (p : List ℕ) (zs : List ℤ) (l : Numbered n p zs) → Listed p (zs ++ signed_value n.negative (digits_value 10 l.digits) ∷ [])
number_listed n p zs l =
    let z : ℤ = signed_value n.negative (digits_value 10 l.digits) in
    let t : List ℕ = sign n.negative ++ l.digits in
    subst (λ (q : List ℕ). Listed q (zs ++ z ∷ [])) (sym l.whole) (l.due.then_listed t z (bare_element t z (signed_spelled n.negative l.digits l.right)))

-- one byte more, for the reader: it goes on with a number, ends one, or does neither

digits_byte : (n : Number) (m : Option ℕ) (v : List ℕ) (b : ℕ) (p : List ℕ) (c : Bool) → is_ascii_digit b ≡ c → HasRead (record { stage = Digits n; vector = v; misfit = m }) p →
    IfSome (read_byte (record { stage = Digits n; vector = v; misfit = m }) b) (λ t. HasRead t (p ++ b ∷ []))
digits_byte n m v b p true e (zs, stands, kept) =
    let r : Reader = record { stage = Digits n; vector = v; misfit = m } in
    let same : ended r b ≡ r = cond-true (is_ascii_digit b) _ _ e in
    kept_step r b p (λ next. Stands next (p ++ b ∷ []) zs) same (in_digits n b p zs e stands) (λ next s. (zs, s, kept))
digits_byte n m v b p false e (zs, stands, kept) =
    let P : Reader → Type 0 = λ t. HasRead t (p ++ b ∷ []) in
    let r : Reader = record { stage = Digits n; vector = v; misfit = m } in
    let z : ℤ = signed_value n.negative (digits_value 10 stands.digits) in
    let listed : Listed p (zs ++ z ∷ []) = number_listed n p zs stands in
    let fits : FitsAs (byte_of n) z = shown_fits n.negative n.magnitude (digits_value 10 stands.digits) stands.shown in
    let with_it : ended r b ≡ with_element r n = cond-false (is_ascii_digit b) _ _ e in
    let step : IfSome (option_map (λ next. record (with_element r n) { stage = next }) (stage_after Between b)) P =
    by_map P (λ next. record (with_element r n) { stage = next }) (stage_after Between b) (λ next. Stands next (p ++ b ∷ []) (zs ++ z ∷ []))
    (between_step b p (zs ++ z ∷ []) listed) (λ next s. (zs ++ z ∷ [], s, element_kept m (Digits n) v n zs z fits kept)) in
    let staged : IfSome (option_map (λ next. record (with_element r n) { stage = next }) (stage_after (Digits n) b)) P =
    subst (λ (o : Option Stage). IfSome (option_map (λ next. record (with_element r n) { stage = next }) o) P) (sym (end_stage n b e)) step in
    subst (λ (x : Reader). IfSome (option_map (λ next. record x { stage = next }) (stage_after (Digits n) b)) P) (sym with_it) staged

other_byte : (r : Reader) (b : ℕ) (p : List ℕ) → ends_none r.stage ≡ true → HasRead r p → IfSome (read_byte r b) (λ t. HasRead t (p ++ b ∷ []))
other_byte r b p h (zs, stands, kept) =
    kept_step r b p (λ next. Stands next (p ++ b ∷ []) zs) (same_either (is_ascii_digit b) r _ (ended_none r r.stage h)) (stage_step r.stage b p zs h stands)
    (λ next t. (zs, t, kept))

byte_step : (m : Option ℕ) (s : Stage) (v : List ℕ) (b : ℕ) (p : List ℕ) → HasRead (record { stage = s; vector = v; misfit = m }) p →
    IfSome (read_byte (record { stage = s; vector = v; misfit = m }) b) (λ t. HasRead t (p ++ b ∷ []))
byte_step m (Digits n) v b p r = digits_byte n m v b p (is_ascii_digit b) refl r
byte_step m Start v b p r = other_byte (record { stage = Start; vector = v; misfit = m }) b p refl r
byte_step m Opened v b p r = other_byte (record { stage = Opened; vector = v; misfit = m }) b p refl r
byte_step m Comma v b p r = other_byte (record { stage = Comma; vector = v; misfit = m }) b p refl r
byte_step m Minus v b p r = other_byte (record { stage = Minus; vector = v; misfit = m }) b p refl r
byte_step m Between v b p r = other_byte (record { stage = Between; vector = v; misfit = m }) b p refl r
byte_step m Closed v b p r = other_byte (record { stage = Closed; vector = v; misfit = m }) b p refl r

-- all bytes of a text
bytes_step : (bs : List ℕ) (r : Reader) (p : List ℕ) → HasRead r p → IfSome (read_bytes r bs) (λ t. HasRead t (p ++ bs))
bytes_step [] r p h = subst (λ (q : List ℕ). HasRead r q) (sym (append-nil p)) h
bytes_step (b ∷ bs) r p h =
    by_then (λ t. HasRead t (p ++ b ∷ bs)) (λ next. read_bytes next bs) (read_byte r b) (λ t. HasRead t (p ++ b ∷ [])) (byte_step r.misfit r.stage r.vector b p h)
    (λ t k. subst (λ (q : List ℕ). IfSome (read_bytes t bs) (λ u. HasRead u q)) (append_assoc p (b ∷ []) bs) (bytes_step bs t (p ++ b ∷ []) k))

-- what a reader of a text has read
pub read_stands : (text : List ℕ) (r : Reader) → read_bytes (reader_at Start []) text ≡ Some r → HasRead r text
read_stands text r e =
    let P : Reader → Type 0 = λ t. HasRead t text in
    let whole : IfSome (read_bytes (reader_at Start []) text) P = bytes_step text (reader_at Start []) [] ([], (refl, refl), (All-nil IsElement, refl)) in
    subst (λ (o : Option Reader). IfSome o P) e whole
