-- Reading a part that the next token decides: what is read is spelled so, what is spelled so is read, and the failing
-- token is the first that no spelling has there.
use Rattle.std.proofs.Common.{◌≡◌, ℕ, zero, suc, ◌≤◌, Bool, true, false, not, ◌||◌, cond, ◌⊎◌, inl, inr, List, [], ◌∷◌, ◌++◌, length, drop, Option, Some, None, Ok, Err, refl, sym, ◌∙◌, ap, subst, arith, append_assoc, length-append, bytes_eq, append-nil}
use Rattle.std.specs.List.{list_any, list_all}
use Rattle.std.proofs.lemmas.Bool.{and_parts, and_from, or_cases, or_parts, or_left, or_right, cond-true, cond-false, both_ways, false_from_ne_true, not-true}
use Rattle.std.proofs.lemmas.Slice.Eq.{bytes_eq-Decides}
use Rattle.vec_literal.specs.Tokens.{Token}
use Rattle.vec_literal.specs.declared.token.TokenSort.{TokenSort}
use Rattle.vec_literal.specs.declared.token.TokenSort.TheVariants as sorts
use Rattle.grammar.specs.Grammar.{same_sort, is_sort, lower, Class, keyword, sign, name, number, number_after_minus, text_literal, blob_literal, parameter, Part, one, seq, alt, opt, many, means, fits, Joined, Repeats, Spells, Begins, lowered, FailsAt, FailsInside}
use Rattle.vec_base.specs.Words.{is_reserved}
use Rattle.grammar.specs.inner.Reading.{Outcome, ◌>>=◌, next_in, nullable, firsts, nexts, starts, sort_for, read_one, read_opt, read_many, read, overlap, apart, decides, ended}

-- facts on tests over lists

pub any-append : {X : Type 0} (f : X → Bool) (a b : List X) → list_any f (a ++ b) ≡ (list_any f a || list_any f b)
any-append f [] b = refl
any-append f (x ∷ a) b = grind (arith, any-append f a b)

pub next_in-append : (a b : List Class) (ts : List Token) → next_in (a ++ b) ts ≡ (next_in a ts || next_in b ts)
next_in-append a b [] = refl
next_in-append a b (t ∷ ts) = any-append (λ c. fits c t) a b

-- in firsts p of a sequence
cond_left : (b : Bool) (x y : List Class) (ts : List Token) → next_in x ts ≡ true → next_in (cond b (x ++ y) x) ts ≡ true
cond_left true x y ts h = next_in-append x y ts ∙ or_left _ _ h
cond_left false x y ts h = h

cond_right : (b : Bool) (x y : List Class) (ts : List Token) → b ≡ true → next_in y ts ≡ true → next_in (cond b (x ++ y) x) ts ≡ true
cond_right true x y ts e h = next_in-append x y ts ∙ or_right _ _ h
cond_right false x y ts e h = absurd cc

-- not in nexts of a sequence
cond_none : (b : Bool) (x y : List Class) (ts : List Token) → next_in (cond b (x ++ y) x) ts ≡ false → next_in x ts ≡ false
cond_none true x y ts h = (or_parts _ _ (sym (next_in-append x y ts) ∙ h)).0
cond_none false x y ts h = h

cond_none_right : (b : Bool) (x y : List Class) (ts : List Token) → b ≡ true → next_in (cond b (x ++ y) x) ts ≡ false → next_in y ts ≡ false
cond_none_right true x y ts e h = (or_parts _ _ (sym (next_in-append x y ts) ∙ h)).1
cond_none_right false x y ts e h = absurd cc

-- what a spelling begins with

front_nothing : (f r : List Token) → f ++ r ≡ [] → f ≡ []
front_nothing [] r e = refl
front_nothing (u ∷ f) r e = absurd cc

rest_nothing : (f r : List Token) → f ++ r ≡ [] → r ≡ []
rest_nothing [] r e = e
rest_nothing (u ∷ f) r e = absurd cc

-- the head of two lists together is the head of the first, or the first is empty
head_of : (f r : List Token) (t : Token) (us : List Token) → f ++ r ≡ t ∷ us → ((f ≡ []) × (r ≡ t ∷ us)) ⊎ ((g : List Token) × (f ≡ t ∷ g))
head_of [] r t us e = inl (refl, e)
head_of (u ∷ f) r t us e = inr (f, cc)

pub spelled_nothing : {A : Type 0} (p : Part A) (ts : List Token) (v : A) → Spells p ts v → ts ≡ [] → nullable p ≡ true
spelled_nothing (one c) ts v s e = absurd cc
spelled_nothing (seq p q) ts v s e =
    and_from _ _ (spelled_nothing p s.front v.0 s.first (front_nothing s.front s.rest (sym s.whole ∙ e)))
    (spelled_nothing q s.rest v.1 s.second (rest_nothing s.front s.rest (sym s.whole ∙ e)))
spelled_nothing (alt p q) ts v (inl s) e = or_left _ _ (spelled_nothing p ts v s e)
spelled_nothing (alt p q) ts v (inr s) e = or_right _ _ (spelled_nothing q ts v s e)
spelled_nothing (opt p) ts v s e = refl
spelled_nothing (many p) ts v s e = refl
spelled_nothing (means f p) ts v s e = spelled_nothing p ts s.0 s.1 e

-- whether t fits one of the classes
abbrev has : List Class → Token → Bool
has cs t = next_in cs (t ∷ [])

repeats_head : {A : Type 0} (S : List Token → A → Type 0) (P : Type 0) (t : Token) →
    ((ts us : List Token) (v : A) → S ts v → ts ≡ t ∷ us → P) →
    (vs : List A) (ts us : List Token) → Repeats S ts vs → ts ≡ t ∷ us → P
repeats_head S P t ih [] ts us s e = absurd cc
repeats_head S P t ih (v ∷ vs) ts us s e =
    elim (head_of s.front s.rest t us (sym s.whole ∙ e)) [
      | inl h ↦ repeats_head S P t ih vs s.rest us s.second h.1
      | inr h ↦ ih s.front h.0 v s.first h.1
    ]

pub spelled_starts : {A : Type 0} (p : Part A) (t : Token) (ts us : List Token) (v : A) → Spells p ts v → ts ≡ t ∷ us → has (firsts p) t ≡ true
spelled_starts (one c) t ts us v s e = let same : v ≡ t = cc in or_left _ _ (subst (λ (x : Token). fits c x ≡ true) same s.1)
spelled_starts (seq p q) t ts us v s e =
    elim (head_of s.front s.rest t us (sym s.whole ∙ e)) [
      | inl h ↦ cond_right (nullable p) (firsts p) (firsts q) (t ∷ []) (spelled_nothing p s.front v.0 s.first h.0) (spelled_starts q t s.rest us v.1 s.second h.1)
      | inr h ↦ cond_left (nullable p) (firsts p) (firsts q) (t ∷ []) (spelled_starts p t s.front h.0 v.0 s.first h.1)
    ]
spelled_starts (alt p q) t ts us v (inl s) e = next_in-append (firsts p) (firsts q) (t ∷ []) ∙ or_left _ _ (spelled_starts p t ts us v s e)
spelled_starts (alt p q) t ts us v (inr s) e = next_in-append (firsts p) (firsts q) (t ∷ []) ∙ or_right _ _ (spelled_starts q t ts us v s e)
spelled_starts (opt p) t ts us None s e = absurd cc
spelled_starts (opt p) t ts us (Some v) s e = spelled_starts p t ts us v s e
spelled_starts (many p) t ts us vs s e = repeats_head (Spells p) (has (firsts p) t ≡ true) t (λ ts' us' v'. spelled_starts p t ts' us' v') vs ts us s e
spelled_starts (means f p) t ts us v s e = spelled_starts p t ts us s.0 s.1 e

pub begun_starts : {A : Type 0} (p : Part A) (t : Token) (ts us : List Token) → Begins p ts → ts ≡ t ∷ us → has (firsts p) t ≡ true
begun_starts (one c) t ts us (inl s) e = absurd cc
begun_starts (one c) t ts us (inr s) e = let same : s.0 ≡ t = cc (s.1) in or_left _ _ (subst (λ (x : Token). fits c x ≡ true) same s.2)
begun_starts (seq p q) t ts us (inl s) e = cond_left (nullable p) (firsts p) (firsts q) (t ∷ []) (begun_starts p t ts us s e)
begun_starts (seq p q) t ts us (inr s) e =
    elim (head_of s.front s.rest t us (sym s.whole ∙ e)) [
      | inl h ↦ cond_right (nullable p) (firsts p) (firsts q) (t ∷ []) (spelled_nothing p s.front s.first.0 s.first.1 h.0) (begun_starts q t s.rest us s.second h.1)
      | inr h ↦ cond_left (nullable p) (firsts p) (firsts q) (t ∷ []) (spelled_starts p t s.front h.0 s.first.0 s.first.1 h.1)
    ]
begun_starts (alt p q) t ts us (inl s) e = next_in-append (firsts p) (firsts q) (t ∷ []) ∙ or_left _ _ (begun_starts p t ts us s e)
begun_starts (alt p q) t ts us (inr s) e = next_in-append (firsts p) (firsts q) (t ∷ []) ∙ or_right _ _ (begun_starts q t ts us s e)
begun_starts (opt p) t ts us s e = begun_starts p t ts us s e
begun_starts (many p) t ts us s e =
    elim (head_of s.front s.rest t us (sym s.whole ∙ e)) [
      | inl h ↦ begun_starts p t s.rest us s.second h.1
      | inr h ↦ repeats_head (Spells p) (has (firsts p) t ≡ true) t (λ ts' us' v'. spelled_starts p t ts' us' v') s.first.0 s.front h.0 s.first.1 h.1
    ]
begun_starts (means f p) t ts us s e = begun_starts p t ts us s e

-- what is read is spelled so

-- the tokens are a front of which P holds, and then the rest
pub record Takes (ts rest : List Token) (P : List Token → Type 0) : Type 0 where
  pub front : List Token
  pub whole : ts ≡ front ++ rest
  pub taken : P front

pub bind_ok : {A B : Type 0} (r : Outcome A) (f : A × List Token → Outcome B) (y : B × List Token) → (r >>= f) ≡ Ok y → (x : A × List Token) × (r ≡ Ok x) × (f x ≡ Ok y)
bind_ok (Ok x) f y h = (x, refl, h)
bind_ok (Err e) f y h = absurd cc

pub bind_err : {A B : Type 0} (r : Outcome A) (f : A × List Token → Outcome B) (e : List Token) → (r >>= f) ≡ Err e → (r ≡ Err e) ⊎ ((x : A × List Token) × (r ≡ Ok x) × (f x ≡ Err e))
bind_err (Ok x) f e h = inr (x, refl, h)
bind_err (Err d) f e h = let same : d ≡ e = cc in inl (ap (λ (z : List Token). Err z) same)

ok_same : {A : Type 0} (x y : A × List Token) → (P : A × List Token → Type 0) → (let a : Outcome A = Ok x in a ≡ Ok y) → P x → P y
ok_same x y P e h = let same : x ≡ y = cc in subst P same h

err_same : {A : Type 0} (x y : List Token) → (P : List Token → Type 0) → (let a : Outcome A = Err x in a ≡ Err y) → P x → P y
err_same x y P e h = let same : x ≡ y = cc in subst P same h

sound_one : (b : Bool) (c : Class) (t : Token) (ts : List Token) (x : Token × List Token) → fits c t ≡ b → cond b (let r : Outcome Token = Ok (t, ts) in r) (Err (t ∷ ts)) ≡ Ok x → Takes (t ∷ ts) x.1 (λ f. Spells (one c) f x.0)
sound_one true c t ts x e h = ok_same (t, ts) x (λ z. Takes (t ∷ ts) z.1 (λ f. Spells (one c) f z.0)) h (record { front = t ∷ []; whole = refl; taken = (refl, e) })
sound_one false c t ts x e h = absurd cc

joined_takes : {P Q R : List Token → Type 0} (ts mid rest : List Token) → Takes ts mid P → Takes mid rest Q → ((f g : List Token) → P f → Q g → R (f ++ g)) → Takes ts rest R
joined_takes ts mid rest a b k = record {
  front = a.front ++ b.front;
  whole = a.whole ∙ (ap (λ (z : List Token). a.front ++ z) b.whole ∙ sym (append_assoc a.front b.front rest));
  taken = k a.front b.front a.taken b.taken;
}

takes_as : {P R : List Token → Type 0} (ts rest : List Token) → Takes ts rest P → ((f : List Token) → P f → R f) → Takes ts rest R
takes_as ts rest a k = record { front = a.front; whole = a.whole; taken = k a.front a.taken }

sound_cond : {A : Type 0} (b : Bool) (r s : Outcome A) (x : A × List Token) (P : Type 0) → cond b r s ≡ Ok x → (r ≡ Ok x → P) → (s ≡ Ok x → P) → P
sound_cond true r s x P h f g = f h
sound_cond false r s x P h f g = g h

err_cond : {A : Type 0} (b : Bool) (r s : Outcome A) (x : List Token) (P : Type 0) → cond b r s ≡ Err x → (r ≡ Err x → P) → (s ≡ Err x → P) → P
err_cond true r s x P h f g = f h
err_cond false r s x P h f g = g h

sound_many : {A : Type 0} (s : List Token → Bool) (r : List Token → Outcome A) (S : List Token → A → Type 0) →
    ((ts : List Token) (x : A × List Token) → r ts ≡ Ok x → Takes ts x.1 (λ f. S f x.0)) →
    (n : ℕ) (ts : List Token) (x : List A × List Token) → read_many s r n ts ≡ Ok x → Takes ts x.1 (λ f. Repeats S f x.0)
sound_many s r S ih zero ts x h = ok_same ([], ts) x (λ z. Takes ts z.1 (λ f. Repeats S f z.0)) h (record { front = []; whole = refl; taken = refl })
sound_many {A} s r S ih (suc n) ts x h = sound_cond (s ts) _ _ x (Takes ts x.1 (λ f. Repeats S f x.0)) h
    (λ k. let b = bind_ok (r ts) _ x k in
    let d = bind_ok (read_many s r n b.0.1) _ x b.2 in
    ok_same (b.0.0 ∷ d.0.0, d.0.1) x (λ z. Takes ts z.1 (λ f. Repeats S f z.0)) d.2
    (joined_takes ts b.0.1 d.0.1 (ih ts b.0 b.1) (sound_many s r S ih n b.0.1 d.0 d.1)
    (λ f g p q. record { front = f; rest = g; whole = refl; first = p; second = q })))
    (λ k. ok_same ([], ts) x (λ z. Takes ts z.1 (λ f. Repeats S f z.0)) k (record { front = []; whole = refl; taken = refl }))

sound_opt : {A : Type 0} (p : Part A) (b : Bool) (ts : List Token) (x : Option A × List Token) →
    ((y : A × List Token) → read p ts ≡ Ok y → Takes ts y.1 (λ f. Spells p f y.0)) →
    read_opt b (read p ts) ts ≡ Ok x → Takes ts x.1 (λ f. Spells (opt p) f x.0)
sound_opt p true ts x ih h =
    let b = bind_ok (read p ts) _ x h in
    ok_same (Some b.0.0, b.0.1) x (λ z. Takes ts z.1 (λ f. Spells (opt p) f z.0)) b.2
    (takes_as ts b.0.1 (ih b.0 b.1) (λ f q. q))
sound_opt p false ts x ih h = ok_same (None, ts) x (λ z. Takes ts z.1 (λ f. Spells (opt p) f z.0)) h (record { front = []; whole = refl; taken = refl })

pub sound : {A : Type 0} (p : Part A) (ts : List Token) (x : A × List Token) → read p ts ≡ Ok x → Takes ts x.1 (λ f. Spells p f x.0)
sound (one c) [] x h = absurd cc
sound (one c) (t ∷ ts) x h = sound_one (fits c t) c t ts x refl h
sound (seq p q) ts x h =
    let b = bind_ok (read p ts) _ x h in
    let d = bind_ok (read q b.0.1) _ x b.2 in
    ok_same ((b.0.0, d.0.0), d.0.1) x (λ z. Takes ts z.1 (λ f. Spells (seq p q) f z.0)) d.2
    (joined_takes ts b.0.1 d.0.1 (sound p ts b.0 b.1) (sound q b.0.1 d.0 d.1)
    (λ f g k l. record { front = f; rest = g; whole = refl; first = k; second = l }))
sound (alt p q) ts x h = sound_cond (starts p ts) _ _ x (Takes ts x.1 (λ f. Spells (alt p q) f x.0)) h
    (λ k. takes_as ts x.1 (sound p ts x k) (λ f s. inl s))
    (λ k. takes_as ts x.1 (sound q ts x k) (λ f s. inr s))
sound (opt p) ts x h = sound_opt p (starts p ts) ts x (sound p ts) h
sound (many p) ts x h = sound_many (λ us. starts p us) (λ us. read p us) (Spells p) (λ us y. sound p us y) (length ts) ts x h
sound (means f p) ts x h =
    let b = bind_ok (read p ts) _ x h in
    ok_same (f b.0.0, b.0.1) x (λ z. Takes ts z.1 (λ g. Spells (means f p) g z.0)) b.2
    (takes_as ts b.0.1 (sound p ts b.0 b.1) (λ g s. (b.0.0, s, refl)))

-- what is refused begins the part

err_many : {A : Type 0} (s : List Token → Bool) (r : List Token → Outcome A) (S : List Token → A → Type 0) (B : List Token → Type 0) →
    ((ts : List Token) (x : A × List Token) → r ts ≡ Ok x → Takes ts x.1 (λ f. S f x.0)) →
    ((ts rest : List Token) → r ts ≡ Err rest → Takes ts rest B) →
    (n : ℕ) (ts rest : List Token) → read_many s r n ts ≡ Err rest → Takes ts rest (λ w. Joined w (λ f. (vs : List A) × Repeats S f vs) B)
err_many s r S B ih je zero ts rest h = absurd cc
err_many {A} s r S B ih je (suc n) ts rest h = err_cond (s ts) _ _ rest (Takes ts rest (λ w. Joined w (λ f. (vs : List A) × Repeats S f vs) B)) h
    (λ k. elim (bind_err (r ts) _ rest k) [
      | inl e ↦ takes_as ts rest (je ts rest e) (λ f b. record { front = []; rest = f; whole = refl; first = ([], refl); second = b })
      | inr b ↦ elim (bind_err (read_many s r n b.0.1) _ rest b.2) [
        | inl e ↦ joined_takes ts b.0.1 rest (ih ts b.0 b.1) (err_many s r S B ih je n b.0.1 rest e)
            (λ f g a j. record {
              front = f ++ j.front;
              rest = j.rest;
              whole = ap (λ (z : List Token). f ++ z) j.whole ∙ sym (append_assoc f j.front j.rest);
              first = (b.0.0 ∷ j.first.0, record { front = f; rest = j.front; whole = refl; first = a; second = j.first.1 });
              second = j.second;
            })
        | inr d ↦ absurd (let no = d.2 in cc)
      ]
    ])
    (λ k. absurd cc)

err_opt : {A : Type 0} (p : Part A) (b : Bool) (ts rest : List Token) →
    (read p ts ≡ Err rest → Takes ts rest (Begins p)) → read_opt b (read p ts) ts ≡ Err rest → Takes ts rest (Begins p)
err_opt p true ts rest ih h = elim (bind_err (read p ts) _ rest h) [ inl e ↦ ih e | inr d ↦ absurd (let no = d.2 in cc) ]
err_opt p false ts rest ih h = absurd cc

err_one : (b : Bool) (c : Class) (t : Token) (ts rest : List Token) → cond b (let r : Outcome Token = Ok (t, ts) in r) (Err (t ∷ ts)) ≡ Err rest → Takes (t ∷ ts) rest (Begins (one c))
err_one true c t ts rest h = absurd cc
err_one false c t ts rest h = err_same {A = Token} (t ∷ ts) rest (λ z. Takes (t ∷ ts) z (Begins (one c))) h (record { front = []; whole = refl; taken = inl refl })

pub err_begins : {A : Type 0} (p : Part A) (ts rest : List Token) → read p ts ≡ Err rest → Takes ts rest (Begins p)
err_begins (one c) [] rest h = record { front = []; whole = (let same : [] ≡ rest = cc in same); taken = inl refl }
err_begins (one c) (t ∷ ts) rest h = err_one (fits c t) c t ts rest h
err_begins (seq p q) ts rest h =
    elim (bind_err (read p ts) _ rest h) [
      | inl e ↦ takes_as ts rest (err_begins p ts rest e) (λ f b. inl b)
      | inr b ↦ elim (bind_err (read q b.0.1) _ rest b.2) [
        | inl e ↦ joined_takes ts b.0.1 rest (sound p ts b.0 b.1) (err_begins q b.0.1 rest e)
            (λ f g a k. inr (record { front = f; rest = g; whole = refl; first = (b.0.0, a); second = k }))
        | inr d ↦ absurd (let no = d.2 in cc)
      ]
    ]
err_begins (alt p q) ts rest h = err_cond (starts p ts) _ _ rest (Takes ts rest (Begins (alt p q))) h
    (λ k. takes_as ts rest (err_begins p ts rest k) (λ f b. inl b))
    (λ k. takes_as ts rest (err_begins q ts rest k) (λ f b. inr b))
err_begins (opt p) ts rest h = err_opt p (starts p ts) ts rest (err_begins p ts rest) h
err_begins (many p) ts rest h = err_many (λ us. starts p us) (λ us. read p us) (Spells p) (Begins p) (λ us y. sound p us y) (λ us y. err_begins p us y) (length ts) ts rest h
err_begins (means f p) ts rest h = elim (bind_err (read p ts) _ rest h) [ inl e ↦ err_begins p ts rest e | inr d ↦ absurd (let no = d.2 in cc) ]

-- two places that no token fits both

same_self : (s : TokenSort) → same_sort s s ≡ true
same_self sorts.Word = refl
same_self sorts.Number = refl
same_self sorts.TextLit = refl
same_self sorts.BlobLit = refl
same_self sorts.Param = refl
same_self sorts.Mark = refl

same_equal : (s r : TokenSort) → same_sort s r ≡ true → r ≡ s
same_equal sorts.Word sorts.Word h = refl
same_equal sorts.Number sorts.Number h = refl
same_equal sorts.TextLit sorts.TextLit h = refl
same_equal sorts.BlobLit sorts.BlobLit h = refl
same_equal sorts.Param sorts.Param h = refl
same_equal sorts.Mark sorts.Mark h = refl
same_equal s r h = absurd cc

sort_is : (s : TokenSort) (o : Option TokenSort) → is_sort s o ≡ true → o ≡ Some s
sort_is s None h = absurd cc
sort_is s (Some r) h = ap (λ z. Some z) (same_equal s r h)

-- a token that fits has the sort
fits_sort : (c : Class) (t : Token) → fits c t ≡ true → t.sort ≡ Some (sort_for c)
unfolding fits
fits_sort (keyword w) t h = sort_is _ _ (and_parts _ _ h).0
fits_sort (sign m) t h = sort_is _ _ (and_parts _ _ h).0
fits_sort name t h = sort_is _ _ (and_parts _ _ (and_parts _ _ h).0).0
fits_sort number t h = sort_is _ _ (and_parts _ _ h).0
fits_sort number_after_minus t h = sort_is _ _ (and_parts _ _ h).0
fits_sort text_literal t h = sort_is _ _ h
fits_sort blob_literal t h = sort_is _ _ h
fits_sort parameter t h = sort_is _ _ (and_parts _ _ (and_parts _ _ h).0).0

other_sorts : (c d : Class) (t : Token) → same_sort (sort_for c) (sort_for d) ≡ false → fits c t ≡ true → fits d t ≡ true → ⊥
other_sorts c d t o x y =
    let same : Some (sort_for c) ≡ Some (sort_for d) = sym (fits_sort c t x) ∙ fits_sort d t y in
    let equal : sort_for c ≡ sort_for d = cc in
    both_ways (same_sort (sort_for c) (sort_for d)) o (subst (λ (z : TokenSort). same_sort (sort_for c) z ≡ true) equal (same_self (sort_for c)))

equal_bytes : (a b : List ℕ) → bytes_eq a b ≡ true → a ≡ b
equal_bytes a b e = (bytes_eq-Decides a b).0 e

apart_words : (k a b : List ℕ) → bytes_eq a b ≡ false → bytes_eq k a ≡ true → bytes_eq k b ≡ true → ⊥
apart_words k a b n x y = both_ways (bytes_eq a b) n ((bytes_eq-Decides a b).1 (sym (equal_bytes k a x) ∙ equal_bytes k b y))

-- places that are apart

-- a reserved word is no name
not_reserved : (k w : List ℕ) → bytes_eq k w ≡ true → not (is_reserved k) ≡ true → not (is_reserved w) ≡ false → ⊥
not_reserved k w e n m = both_ways (not (is_reserved k)) (subst (λ (z : List ℕ). not (is_reserved z) ≡ false) (sym (equal_bytes k w e)) m) n

pub no_overlap : (c d : Class) (t : Token) → overlap c d ≡ false → fits c t ≡ true → fits d t ≡ true → ⊥
unfolding overlap fits
no_overlap (keyword a) (keyword b) t o x y = apart_words (lower t) (lowered a) (lowered b) o (and_parts _ _ x).1 (and_parts _ _ y).1
no_overlap (keyword a) name t o x y = not_reserved (lower t) (lowered a) (and_parts _ _ x).1 (and_parts _ _ y).1 o
no_overlap name (keyword b) t o x y = not_reserved (lower t) (lowered b) (and_parts _ _ y).1 (and_parts _ _ x).1 o
no_overlap (sign a) (sign b) t o x y = apart_words t.spelling a b o (and_parts _ _ x).1 (and_parts _ _ y).1
no_overlap c d t o x y = other_sorts c d t o x y

one_apart : (c : Class) (ds : List Class) (t : Token) → list_all (λ d. not (overlap c d)) ds ≡ true → fits c t ≡ true → has ds t ≡ true → ⊥
one_apart c [] t a x y = absurd cc
one_apart c (d ∷ ds) t a x y =
    elim (or_cases (fits d t) (has ds t) y) [
      | inl h ↦ no_overlap c d t (not-true _ (and_parts _ _ a).0) x h
      | inr h ↦ one_apart c ds t (and_parts _ _ a).1 x h
    ]

pub both_apart : (cs ds : List Class) (t : Token) → apart cs ds ≡ true → has cs t ≡ true → has ds t ≡ true → ⊥
both_apart [] ds t a x y = absurd cc
both_apart (c ∷ cs) ds t a x y =
    elim (or_cases (fits c t) (has cs t) x) [
      | inl h ↦ one_apart c ds t (and_parts _ _ a).0 h y
      | inr h ↦ both_apart cs ds t (and_parts _ _ a).1 h y
    ]

-- nothing of a comes next, where what comes next begins a part of firsts b or is what follows
no_next : (a b : List Class) (r rest : List Token) → apart a b ≡ true → ((t : Token) (us : List Token) → r ≡ t ∷ us → has b t ≡ true) → (r ≡ [] → next_in a rest ≡ false) → next_in a (r ++ rest) ≡ false
no_next a b [] rest h k l = l refl
no_next a b (t ∷ us) rest h k l = false_from_ne_true _ (λ x. both_apart a b t h x (k t us refl))

-- what is spelled so is read

bind_to : {A B : Type 0} (r : Outcome A) (x : A × List Token) (f : A × List Token → Outcome B) (y : Outcome B) → r ≡ Ok x → f x ≡ y → (r >>= f) ≡ y
bind_to {A} r x f y e h = ap (λ (z : Outcome A). z >>= f) e ∙ h

pub ReadsBack : {A : Type 0} → Part A → Type 0
ReadsBack {A} p = (ts rest : List Token) (v : A) → Spells p ts v → next_in (nexts p) rest ≡ false → read p (ts ++ rest) ≡ Ok (v, rest)

nonempty : (ts : List Token) → (ts ≡ [] → ⊥) → (t : Token) × (us : List Token) × (ts ≡ t ∷ us)
nonempty [] h = absurd (h refl)
nonempty (t ∷ us) h = (t, us, refl)

pub spelled_something : {A : Type 0} (p : Part A) (ts : List Token) (v : A) → nullable p ≡ false → Spells p ts v → (t : Token) × (us : List Token) × (ts ≡ t ∷ us)
spelled_something p ts v n s = nonempty ts (λ e. both_ways (nullable p) n (spelled_nothing p ts v s e))

complete_many : {A : Type 0} (p : Part A) → nullable p ≡ false → apart (nexts p) (firsts p) ≡ true →
    ((ts rest : List Token) (v : A) → Spells p ts v → next_in (nexts p) rest ≡ false → read p (ts ++ rest) ≡ Ok (v, rest)) →
    (vs : List A) (n : ℕ) (ts rest : List Token) → Repeats (Spells p) ts vs → length ts ≤ n → next_in (firsts p) rest ≡ false → next_in (nexts p) rest ≡ false →
    read_many (λ us. starts p us) (λ us. read p us) n (ts ++ rest) ≡ Ok (vs, rest)
complete_many {A} p u a ih [] zero ts rest s l f g = let e : ts ≡ [] = s in ap (λ (z : List Token). let r : Outcome (List A) = Ok ([], z ++ rest) in r) e
complete_many {A} p u a ih [] (suc n) ts rest s l f g =
    let e : ts ≡ [] = s in
    ap (λ (z : List Token). read_many (λ us. starts p us) (λ us. read p us) (suc n) (z ++ rest)) e ∙ cond-false (starts p rest) _ _ f
complete_many {A} p u a ih (v ∷ vs) zero ts rest s l f g =
    let some = spelled_something p s.front v u s.first in
    absurd (omega (arith, ap length s.whole, length-append s.front s.rest, ap length some.2))
complete_many {A} p u a ih (v ∷ vs) (suc n) ts rest s l f g =
    let some = spelled_something p s.front v u s.first in
    let whole : ts ++ rest ≡ s.front ++ (s.rest ++ rest) = ap (λ (z : List Token). z ++ rest) s.whole ∙ append_assoc s.front s.rest rest in
    let begun : starts p (ts ++ rest) ≡ true = subst (λ (z : List Token). starts p z ≡ true) (sym (whole ∙ ap (λ (z : List Token). z ++ (s.rest ++ rest)) some.2)) (spelled_starts p some.0 s.front some.1 v s.first some.2) in
    let none : next_in (nexts p) (s.rest ++ rest) ≡ false = no_next (nexts p) (firsts p) s.rest rest a
    (λ t us e. repeats_head (Spells p) (has (firsts p) t ≡ true) t (λ ts' us' v'. spelled_starts p t ts' us' v') vs s.rest us s.second e) (λ e. g) in
    let fewer : length s.rest ≤ n = omega (arith, ap length s.whole, length-append s.front s.rest, ap length some.2) in
    cond-true (starts p (ts ++ rest)) _ _ begun ∙
    bind_to (read p (ts ++ rest)) (v, s.rest ++ rest) _ _ (ap (λ (z : List Token). read p z) whole ∙ ih s.front (s.rest ++ rest) v s.first none)
    (bind_to (read_many (λ us. starts p us) (λ us. read p us) n (s.rest ++ rest)) (vs, rest) _ _ (complete_many p u a ih vs n s.rest rest s.second fewer f g) refl)

opt_none : {A : Type 0} (b : Bool) (r : Outcome A) (ts : List Token) → b ≡ false → read_opt b r ts ≡ Ok (None, ts)
opt_none true r ts h = absurd cc
opt_none false r ts h = refl

opt_some : {A : Type 0} (b : Bool) (r : Outcome A) (ts rest : List Token) (v : A) → b ≡ true → r ≡ Ok (v, rest) → read_opt b r ts ≡ Ok (Some v, rest)
opt_some true r ts rest v h e = bind_to r (v, rest) _ _ e refl
opt_some false r ts rest v h e = absurd cc

not_null : (b : Bool) → not b ≡ true → b ≡ false
not_null b h = not-true b h

-- a part that is spelled starts it, whatever follows
begun_by : {A : Type 0} (p : Part A) (ts rest : List Token) (v : A) → nullable p ≡ false → Spells p ts v → starts p (ts ++ rest) ≡ true
begun_by p ts rest v n s =
    let some = spelled_something p ts v n s in
    subst (λ (z : List Token). starts p (z ++ rest) ≡ true) (sym some.2) (spelled_starts p some.0 ts some.1 v s some.2)

not_begun_by : {A B : Type 0} (p : Part A) (q : Part B) (ts rest : List Token) (v : B) → nullable q ≡ false → apart (firsts p) (firsts q) ≡ true → Spells q ts v → starts p (ts ++ rest) ≡ false
not_begun_by p q ts rest v n a s =
    let some = spelled_something q ts v n s in
    subst (λ (z : List Token). starts p (z ++ rest) ≡ false) (sym some.2)
    (false_from_ne_true _ (λ x. both_apart (firsts p) (firsts q) some.0 a x (spelled_starts q some.0 ts some.1 v s some.2)))

pub complete : {A : Type 0} (p : Part A) → decides p ≡ true → (ts rest : List Token) (v : A) → Spells p ts v → next_in (nexts p) rest ≡ false → read p (ts ++ rest) ≡ Ok (v, rest)
complete (one c) d ts rest v s n = ap (λ (z : List Token). read_one c (z ++ rest)) s.0 ∙ cond-true (fits c v) _ _ s.1
complete (seq p q) d ts rest v s n =
    let both = and_parts _ _ d in
    let each = and_parts _ _ both.0 in
    let nq : next_in (nexts q) rest ≡ false = cond_none (nullable q) (nexts q) (nexts p) rest n in
    let np : next_in (nexts p) (s.rest ++ rest) ≡ false = no_next (nexts p) (firsts q) s.rest rest both.1
    (λ t us e. spelled_starts q t s.rest us v.1 s.second e)
    (λ e. cond_none_right (nullable q) (nexts q) (nexts p) rest (spelled_nothing q s.rest v.1 s.second e) n) in
    let whole : ts ++ rest ≡ s.front ++ (s.rest ++ rest) = ap (λ (z : List Token). z ++ rest) s.whole ∙ append_assoc s.front s.rest rest in
    bind_to (read p (ts ++ rest)) (v.0, s.rest ++ rest) _ _ (ap (λ (z : List Token). read p z) whole ∙ complete p each.0 s.front (s.rest ++ rest) v.0 s.first np)
    (bind_to (read q (s.rest ++ rest)) (v.1, rest) _ _ (complete q each.1 s.rest rest v.1 s.second nq) refl)
complete (alt p q) d ts rest v (inl s) n =
    let a = and_parts _ _ d in
    let b = and_parts _ _ a.0 in
    let c = and_parts _ _ b.0 in
    let e = and_parts _ _ c.0 in
    cond-true (starts p (ts ++ rest)) _ _ (begun_by p ts rest v (not_null _ c.1) s) ∙
    complete p e.0 ts rest v s (or_parts _ _ (sym (next_in-append (nexts p) (nexts q) rest) ∙ n)).0
complete (alt p q) d ts rest v (inr s) n =
    let a = and_parts _ _ d in
    let b = and_parts _ _ a.0 in
    let c = and_parts _ _ b.0 in
    let e = and_parts _ _ c.0 in
    cond-false (starts p (ts ++ rest)) _ _ (not_begun_by p q ts rest v (not_null _ b.1) a.1 s) ∙
    complete q e.1 ts rest v s (or_parts _ _ (sym (next_in-append (nexts p) (nexts q) rest) ∙ n)).1
complete {A} (opt p) d ts rest None s n =
    let e : ts ≡ [] = s in
    let f : starts p (ts ++ rest) ≡ false = subst (λ (z : List Token). starts p (z ++ rest) ≡ false) (sym e) (or_parts _ _ (sym (next_in-append (firsts p) (nexts p) rest) ∙ n)).0 in
    opt_none (starts p (ts ++ rest)) (read p (ts ++ rest)) (ts ++ rest) f ∙ ap (λ (z : List Token). let r : Outcome A = Ok (None, z ++ rest) in r) e
complete (opt p) d ts rest (Some v) s n =
    let a = and_parts _ _ d in
    opt_some (starts p (ts ++ rest)) (read p (ts ++ rest)) (ts ++ rest) rest v (begun_by p ts rest v (not_null _ a.1) s)
    (complete p a.0 ts rest v s (or_parts _ _ (sym (next_in-append (firsts p) (nexts p) rest) ∙ n)).1)
complete (many p) d ts rest vs s n =
    let a = and_parts _ _ d in
    let b = and_parts _ _ a.0 in
    let none = or_parts _ _ (sym (next_in-append (firsts p) (nexts p) rest) ∙ n) in
    complete_many p (not_null _ b.1) a.1 (complete p b.0) vs (length (ts ++ rest)) ts rest s (omega (arith, length-append ts rest)) none.0 none.1
complete {A} (means f p) d ts rest v s n =
    bind_to (read p (ts ++ rest)) (s.0, rest) _ _ (complete p d ts rest s.0 s.1 n) (ap (λ (z : A). let r : Outcome A = Ok (z, rest) in r) (sym s.2))

-- reading takes all of what begins the part

-- at most as many tokens are left
abbrev pub Left : {A : Type 0} → Outcome A → List Token → Type 0
Left (Ok x) more = length x.1 ≤ length more
Left (Err e) more = length e ≤ length more

pub result_cases : {A : Type 0} (r : Outcome A) → ((x : A × List Token) × (r ≡ Ok x)) ⊎ ((e : List Token) × (r ≡ Err e))
result_cases (Ok x) = inl (x, refl)
result_cases (Err e) = inr (e, refl)

left_at : {A : Type 0} (r s : Outcome A) (more : List Token) → r ≡ s → Left s more → Left r more
left_at {A} r s more e h = subst (λ (z : Outcome A). Left z more) (sym e) h

left_more : {A : Type 0} (r : Outcome A) (us more : List Token) → Left r us → length us ≤ length more → Left r more
left_more (Ok x) us more h l = omega arith
left_more (Err e) us more h l = omega arith

left_bind : {A B : Type 0} (r : Outcome A) (k : A × List Token → Outcome B) (more : List Token) → Left r more → ((x : A × List Token) → length x.1 ≤ length more → Left (k x) more) → Left (r >>= k) more
left_bind (Ok x) k more h f = f x h
left_bind (Err e) k more h f = h

takes_fewer : {P : List Token → Type 0} (ts rest : List Token) → Takes ts rest P → length rest ≤ length ts
takes_fewer ts rest t = omega (arith, ap length t.whole, length-append t.front rest)

pub left_less : {A : Type 0} (p : Part A) (ts : List Token) → Left (read p ts) ts
left_less p ts =
    elim (result_cases (read p ts)) [
      | inl x ↦ left_at (read p ts) (Ok x.0) ts x.1 (takes_fewer ts x.0.1 (sound p ts x.0 x.1))
      | inr e ↦ left_at (read p ts) (Err e.0) ts e.1 (takes_fewer ts e.0 (err_begins p ts e.0 e.1))
    ]

left_less_many : {A : Type 0} (p : Part A) (n : ℕ) (ts : List Token) → Left (read_many (λ us. starts p us) (λ us. read p us) n ts) ts
left_less_many {A} p n ts =
    let r : Outcome (List A) = read_many (λ us. starts p us) (λ us. read p us) n ts in
    elim (result_cases r) [
      | inl x ↦ left_at r (Ok x.0) ts x.1 (takes_fewer ts x.0.1 (sound_many (λ us. starts p us) (λ us. read p us) (Spells p) (λ us y. sound p us y) n ts x.0 x.1))
      | inr e ↦ left_at r (Err e.0) ts e.1 (takes_fewer ts e.0 (err_many (λ us. starts p us) (λ us. read p us) (Spells p) (Begins p) (λ us y. sound p us y) (λ us y. err_begins p us y) n ts e.0 e.1))
    ]

pub nothing_begins : {A : Type 0} (p : Part A) → Begins p []
nothing_begins (one c) = inl refl
nothing_begins (seq p q) = inl (nothing_begins p)
nothing_begins (alt p q) = inl (nothing_begins p)
nothing_begins (opt p) = nothing_begins p
nothing_begins (many p) = record { front = []; rest = []; whole = refl; first = ([], refl); second = nothing_begins p }
nothing_begins (means f p) = nothing_begins p

pub spelled_begins : {A : Type 0} (p : Part A) (ts : List Token) (v : A) → Spells p ts v → Begins p ts
spelled_begins (one c) ts v s = inr (v, s.0, s.1)
spelled_begins (seq p q) ts v s = inr (record { front = s.front; rest = s.rest; whole = s.whole; first = (v.0, s.first); second = spelled_begins q s.rest v.1 s.second })
spelled_begins (alt p q) ts v (inl s) = inl (spelled_begins p ts v s)
spelled_begins (alt p q) ts v (inr s) = inr (spelled_begins q ts v s)
spelled_begins (opt p) ts None s = let e : ts ≡ [] = s in subst (λ (z : List Token). Begins p z) (sym e) (nothing_begins p)
spelled_begins (opt p) ts (Some v) s = spelled_begins p ts v s
spelled_begins (many p) ts vs s = record { front = ts; rest = []; whole = sym (append-nil ts); first = (vs, s); second = nothing_begins p }
spelled_begins (means f p) ts v s = spelled_begins p ts s.0 s.1

-- what a list is, empty or not, with the equation
list_cases : (ts : List Token) → (ts ≡ []) ⊎ ((t : Token) × (us : List Token) × (ts ≡ t ∷ us))
list_cases [] = inl refl
list_cases (t ∷ us) = inr (t, us, refl)

left_cond : {A : Type 0} (b : Bool) (r s : Outcome A) (more : List Token) → b ≡ true → Left r more → Left (cond b r s) more
left_cond true r s more e h = h
left_cond false r s more e h = absurd cc

left_cond_not : {A : Type 0} (b : Bool) (r s : Outcome A) (more : List Token) → b ≡ false → Left s more → Left (cond b r s) more
left_cond_not true r s more e h = absurd cc
left_cond_not false r s more e h = h

left_opt : {A : Type 0} (b : Bool) (r : Outcome A) (ts more : List Token) → b ≡ true → Left r more → Left (read_opt b r ts) more
left_opt true r ts more e h = left_bind r _ more h (λ x l. l)
left_opt false r ts more e h = absurd cc

begun_by_begin : {A : Type 0} (p : Part A) (w more us : List Token) (t : Token) → Begins p w → w ≡ t ∷ us → starts p (w ++ more) ≡ true
begun_by_begin p w more us t b e = subst (λ (z : List Token). starts p (z ++ more) ≡ true) (sym e) (begun_starts p t w us b e)

-- nothing is left of a beginning with no token
left_nothing : {A : Type 0} (p : Part A) (w more : List Token) → w ≡ [] → Left (read p (w ++ more)) more
left_nothing p w more e = subst (λ (z : List Token). Left (read p (z ++ more)) more) (sym e) (left_less p more)

many_once_more : {A : Type 0} (p : Part A) → ((w more : List Token) → Begins p w → Left (read p (w ++ more)) more) →
    (n : ℕ) (w more : List Token) → Begins p w → length w ≤ n → (t : Token) (us : List Token) → w ≡ t ∷ us → Left (read_many (λ us. starts p us) (λ us. read p us) n (w ++ more)) more
many_once_more p ih zero w more b l t us e = absurd (omega (arith, ap length e))
many_once_more p ih (suc n) w more b l t us e =
    left_cond (starts p (w ++ more)) _ _ more (begun_by_begin p w more us t b e)
    (left_bind (read p (w ++ more)) _ more (ih w more b)
    (λ x k. left_bind (read_many (λ us. starts p us) (λ us. read p us) n x.1) _ more (left_more _ x.1 more (left_less_many p n x.1) k) (λ y m. m)))

many_once : {A : Type 0} (p : Part A) → ((w more : List Token) → Begins p w → Left (read p (w ++ more)) more) →
    (n : ℕ) (w more : List Token) → Begins p w → length w ≤ n → Left (read_many (λ us. starts p us) (λ us. read p us) n (w ++ more)) more
many_once {A} p ih n w more b l =
    let Goal : List Token → Type 0 = λ z. Left (read_many (λ us. starts p us) (λ us. read p us) n (z ++ more)) more in
    elim (list_cases w) [
      | inl e ↦ subst Goal (sym e) (left_less_many p n more)
      | inr c ↦ many_once_more p ih n w more b l c.0 c.1 c.2
    ]

left_to : {A B : Type 0} (r : Outcome A) (x : A × List Token) (k : A × List Token → Outcome B) (more : List Token) → r ≡ Ok x → Left (k x) more → Left (r >>= k) more
left_to r x k more e h = left_at (r >>= k) (k x) more (bind_to r x k (k x) e refl) h

many_left : {A : Type 0} (p : Part A) → nullable p ≡ false → apart (nexts p) (firsts p) ≡ true →
    ((w more : List Token) → Begins p w → Left (read p (w ++ more)) more) →
    ((ts rest : List Token) (v : A) → Spells p ts v → next_in (nexts p) rest ≡ false → read p (ts ++ rest) ≡ Ok (v, rest)) →
    (vs : List A) (n : ℕ) (w f g more : List Token) → w ≡ f ++ g → Repeats (Spells p) f vs → Begins p g → length w ≤ n →
    Left (read_many (λ us. starts p us) (λ us. read p us) n (w ++ more)) more
many_left p u a ih comp [] n w f g more e s b l =
    let same : w ≡ g = e ∙ ap (λ (z : List Token). z ++ g) (let no : f ≡ [] = s in no) in
    let begun : Begins p w = subst (λ (z : List Token). Begins p z) (sym same) b in
    many_once p ih n w more begun l
many_left p u a ih comp (v ∷ vs) zero w f g more e s b l =
    let some = spelled_something p s.front v u s.first in
    absurd (omega (arith, ap length e, length-append f g, ap length s.whole, length-append s.front s.rest, ap length some.2))
many_left {A} p u a ih comp (v ∷ vs) (suc n) w f g more e s b l =
    let some = spelled_something p s.front v u s.first in
    let split : w ≡ s.front ++ (s.rest ++ g) = e ∙ (ap (λ (z : List Token). z ++ g) s.whole ∙ append_assoc s.front s.rest g) in
    elim (list_cases (s.rest ++ g)) [
      | inl none ↦
          (let same : w ≡ s.front = split ∙ (ap (λ (z : List Token). s.front ++ z) none ∙ append-nil s.front) in
          let begun : Begins p w = subst (λ (z : List Token). Begins p z) (sym same) (spelled_begins p s.front v s.first) in
          many_once p ih (suc n) w more begun l)
      | inr c ↦
          (let begins : has (firsts p) c.0 ≡ true = elim (head_of s.rest g c.0 c.1 c.2) [
            | inl h ↦ begun_starts p c.0 g c.1 b h.1
            | inr h ↦ repeats_head (Spells p) (has (firsts p) c.0 ≡ true) c.0 (λ ts' us' v'. spelled_starts p c.0 ts' us' v') vs s.rest h.0 s.second h.1
          ] in
          let stops : next_in (nexts p) ((s.rest ++ g) ++ more) ≡ false =
          subst (λ (z : List Token). next_in (nexts p) (z ++ more) ≡ false) (sym c.2) (false_from_ne_true _ (λ x. both_apart (nexts p) (firsts p) c.0 a x begins)) in
          let whole : w ++ more ≡ s.front ++ ((s.rest ++ g) ++ more) = ap (λ (z : List Token). z ++ more) split ∙ append_assoc s.front (s.rest ++ g) more in
          let begun : starts p (w ++ more) ≡ true = subst (λ (z : List Token). starts p z ≡ true) (sym whole) (begun_by p s.front ((s.rest ++ g) ++ more) v u s.first) in
          let fewer : length (s.rest ++ g) ≤ n = omega (arith, ap length split, length-append s.front (s.rest ++ g), ap length some.2) in
          left_cond (starts p (w ++ more)) _ _ more begun
          (left_to (read p (w ++ more)) (v, (s.rest ++ g) ++ more) _ more
          (ap (λ (z : List Token). read p z) whole ∙ comp s.front ((s.rest ++ g) ++ more) v s.first stops)
          (left_bind (read_many (λ us. starts p us) (λ us. read p us) n ((s.rest ++ g) ++ more)) _ more
          (many_left p u a ih comp vs n (s.rest ++ g) s.rest g more refl s.second b fewer) (λ y m. m))))
    ]

pub begun_left : {A : Type 0} (p : Part A) → decides p ≡ true → (w more : List Token) → Begins p w → Left (read p (w ++ more)) more
begun_left (one c) d w more (inl e) = left_nothing (one c) w more e
begun_left (one c) d w more (inr s) =
    left_at (read (one c) (w ++ more)) (Ok (s.0, more)) more (ap (λ (z : List Token). read_one c (z ++ more)) s.1 ∙ cond-true (fits c s.0) _ _ s.2) (omega arith)
begun_left (seq p q) d w more (inl b) =
    let each = and_parts _ _ (and_parts _ _ d).0 in
    left_bind (read p (w ++ more)) _ more (begun_left p each.0 w more b)
    (λ x l. left_bind (read q x.1) _ more (left_more (read q x.1) x.1 more (left_less q x.1) l) (λ y m. m))
begun_left (seq p q) d w more (inr s) =
    let both = and_parts _ _ d in
    let each = and_parts _ _ both.0 in
    elim (list_cases s.rest) [
      | inl none ↦
          (let same : w ≡ s.front = s.whole ∙ (ap (λ (z : List Token). s.front ++ z) none ∙ append-nil s.front) in
          let begun : Begins p w = subst (λ (z : List Token). Begins p z) (sym same) (spelled_begins p s.front s.first.0 s.first.1) in
          left_bind (read p (w ++ more)) _ more (begun_left p each.0 w more begun)
          (λ x l. left_bind (read q x.1) _ more (left_more (read q x.1) x.1 more (left_less q x.1) l) (λ y m. m)))
      | inr c ↦
          (let stops : next_in (nexts p) (s.rest ++ more) ≡ false =
          no_next (nexts p) (firsts q) s.rest more both.1 (λ t us e. begun_starts q t s.rest us s.second e) (λ e. absurd (let no = c.2 in cc)) in
          let whole : w ++ more ≡ s.front ++ (s.rest ++ more) = ap (λ (z : List Token). z ++ more) s.whole ∙ append_assoc s.front s.rest more in
          left_to (read p (w ++ more)) (s.first.0, s.rest ++ more) _ more
          (ap (λ (z : List Token). read p z) whole ∙ complete p each.0 s.front (s.rest ++ more) s.first.0 s.first.1 stops)
          (left_bind (read q (s.rest ++ more)) _ more (begun_left q each.1 s.rest more s.second) (λ y m. m)))
    ]
begun_left (alt p q) d w more (inl s) =
    let a = and_parts _ _ d in
    let b = and_parts _ _ a.0 in
    let c = and_parts _ _ b.0 in
    let e = and_parts _ _ c.0 in
    elim (list_cases w) [
      | inl none ↦ left_nothing (alt p q) w more none
      | inr h ↦ left_cond (starts p (w ++ more)) _ _ more (begun_by_begin p w more h.1 h.0 s h.2) (begun_left p e.0 w more s)
    ]
begun_left (alt p q) d w more (inr s) =
    let a = and_parts _ _ d in
    let b = and_parts _ _ a.0 in
    let c = and_parts _ _ b.0 in
    let e = and_parts _ _ c.0 in
    elim (list_cases w) [
      | inl none ↦ left_nothing (alt p q) w more none
      | inr h ↦ left_cond_not (starts p (w ++ more)) _ _ more
          (subst (λ (z : List Token). starts p (z ++ more) ≡ false) (sym h.2) (false_from_ne_true _ (λ x. both_apart (firsts p) (firsts q) h.0 a.1 x (begun_starts q h.0 w h.1 s h.2))))
          (begun_left q e.1 w more s)
    ]
begun_left (opt p) d w more s =
    let a = and_parts _ _ d in
    elim (list_cases w) [
      | inl none ↦ left_nothing (opt p) w more none
      | inr h ↦ left_opt (starts p (w ++ more)) (read p (w ++ more)) (w ++ more) more (begun_by_begin p w more h.1 h.0 s h.2) (begun_left p a.0 w more s)
    ]
begun_left (many p) d w more s =
    let a = and_parts _ _ d in
    let b = and_parts _ _ a.0 in
    many_left p (not_null _ b.1) a.1 (begun_left p b.0) (complete p b.0) s.first.0 (length (w ++ more)) w s.front s.rest more s.whole s.first.1 s.second (omega (arith, length-append w more))
begun_left (means f p) d w more s = left_bind (read p (w ++ more)) _ more (begun_left p d w more s) (λ x l. l)

-- the whole theorem

ended_ok_at : {A : Type 0} (p : Part A) (ts : List Token) (v x : A) (rest : List Token) → Takes ts rest (λ f. Spells p f x) → ended (Ok (x, rest)) ≡ Ok v → Spells p ts v
ended_ok_at p ts v x [] t h =
    let same : x ≡ v = cc in
    let whole : t.front ≡ ts = sym (t.whole ∙ append-nil t.front) in
    subst (λ (z : List Token). Spells p z v) whole (subst (λ y. Spells p t.front y) same t.taken)
ended_ok_at p ts v x (t ∷ us) k h = absurd cc

ended_err_at : {A : Type 0} (x : A) (us rest : List Token) → ended (Ok (x, us)) ≡ Err rest → us ≡ rest
ended_err_at x [] rest h = absurd cc
ended_err_at x (t ∷ us) rest h = cc

pub ok_left : {A : Type 0} (r : Outcome A) (x : A × List Token) (more : List Token) → r ≡ Ok x → Left r more → length x.1 ≤ length more
ok_left {A} r x more e h = let k : Left (Ok x) more = subst (λ (z : Outcome A). Left z more) e h in k

pub err_left : {A : Type 0} (r : Outcome A) (x : List Token) (more : List Token) → r ≡ Err x → Left r more → length x ≤ length more
err_left {A} r x more e h = let k : Left (let r : Outcome A = Err x in r) more = subst (λ (z : Outcome A). Left z more) e h in k

fails_at : {A : Type 0} (p : Part A) → decides p ≡ true → (ts rest : List Token) → ((v : A) → Spells p ts v → ⊥) → Takes ts rest (Begins p) → ((w more : List Token) → ts ≡ w ++ more → Begins p w → length rest ≤ length more) → FailsAt p ts rest
fails_at p d ts rest none t f = record {
  front = t.front;
  whole = t.whole;
  begins = t.taken;
  longest = λ w more e b. (let fewer : length rest ≤ length more = f w more e b in omega (arith, ap length t.whole, length-append t.front rest, ap length e, length-append w more));
  none = none;
}

-- what is read to the end is spelled so
pub ended_ok : {A : Type 0} (p : Part A) (ts : List Token) (v : A) → ended (read p ts) ≡ Ok v → Spells p ts v
ended_ok {A} p ts v h = elim (result_cases (read p ts)) [
  | inl x ↦ (let k : ended (Ok x.0) ≡ Ok v = ap (λ (z : Outcome A). ended z) (sym x.1) ∙ h in ended_ok_at p ts v x.0.0 x.0.1 (sound p ts x.0 x.1) k)
  | inr e ↦ absurd (let k : ended (let r : Outcome A = Err e.0 in r) ≡ Ok v = ap (λ (z : Outcome A). ended z) (sym e.1) ∙ h in cc)
]

-- what is spelled so is read to the end
pub ok_ended : {A : Type 0} (p : Part A) → decides p ≡ true → (ts : List Token) (v : A) → Spells p ts v → ended (read p ts) ≡ Ok v
ok_ended {A} p d ts v s = ap (λ (z : Outcome A). ended z) (ap (λ (z : List Token). read p z) (sym (append-nil ts)) ∙ complete p d ts [] v s refl)

-- where reading stops is the failing token
pub ended_err : {A : Type 0} (p : Part A) → decides p ≡ true → (ts rest : List Token) → ended (read p ts) ≡ Err rest → FailsAt p ts rest
ended_err {A} p d ts rest h =
    let none : (v : A) → Spells p ts v → ⊥ = λ v s. (let k : ended (read p ts) ≡ Ok v = ok_ended p d ts v s in (let no = sym k ∙ h in cc)) in
    elim (result_cases (read p ts)) [
      | inl x ↦ (let k : ended (Ok x.0) ≡ Err rest = ap (λ (z : Outcome A). ended z) (sym x.1) ∙ h in
          let same : x.0.1 ≡ rest = ended_err_at x.0.0 x.0.1 rest k in
          fails_at p d ts rest none
          (takes_as ts rest (subst (λ (z : List Token). Takes ts z (λ f. Spells p f x.0.0)) same (sound p ts x.0 x.1)) (λ f s. spelled_begins p f x.0.0 s))
          (λ w more e b. subst (λ (z : List Token). length z ≤ length more) same (ok_left (read p ts) x.0 more x.1 (subst (λ (z : List Token). Left (read p z) more) (sym e) (begun_left p d w more b)))))
      | inr e ↦ (let k : ended (let r : Outcome A = Err e.0 in r) ≡ Err rest = ap (λ (z : Outcome A). ended z) (sym e.1) ∙ h in
          let same : e.0 ≡ rest = cc in
          fails_at p d ts rest none
          (subst (λ (z : List Token). Takes ts z (Begins p)) same (err_begins p ts e.0 e.1))
          (λ w more q b. subst (λ (z : List Token). length z ≤ length more) same (err_left (read p ts) e.0 more e.1 (subst (λ (z : List Token). Left (read p z) more) (sym q) (begun_left p d w more b)))))
    ]

-- no tokens spell two values
pub one_value : {A : Type 0} (p : Part A) → decides p ≡ true → (ts : List Token) (v w : A) → Spells p ts v → Spells p ts w → v ≡ w
one_value p d ts v w s t = let e = sym (ok_ended p d ts v s) ∙ ok_ended p d ts w t in cc

-- a text fails at one token

same_rest : (front other a b : List Token) → front ++ a ≡ other ++ b → length front ≤ length other → length other ≤ length front → a ≡ b
same_rest [] [] a b e l m = e
same_rest [] (t ∷ other) a b e l m = absurd (omega (arith, m))
same_rest (t ∷ front) [] a b e l m = absurd (omega (arith, l))
same_rest (t ∷ front) (u ∷ other) a b e l m = same_rest front other a b (ap (λ (z : List Token). drop 1 z) e) (omega (arith, l)) (omega (arith, m))

pub fails_once : {A : Type 0} (p : Part A) (ts a b : List Token) → FailsAt p ts a → FailsAt p ts b → a ≡ b
fails_once p ts a b f g = same_rest f.front g.front a b (sym f.whole ∙ g.whole) (g.longest f.front a f.whole f.begins) (f.longest g.front b g.whole g.begins)

pub fails_once_inside : {A : Type 0} (p : Part A) (ts a b : List Token) → FailsInside p ts a → FailsInside p ts b → a ≡ b
fails_once_inside p ts a b f g = same_rest f.front g.front a b (sym f.whole ∙ g.whole) (g.longest f.front a f.whole f.begins) (f.longest g.front b g.whole g.begins)
