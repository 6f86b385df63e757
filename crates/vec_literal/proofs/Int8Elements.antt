-- The spelled elements of an int8 literal, from left to right: white space and elements added at the end.
use Rattle.std.proofs.Common.{◌≡◌, ℕ, ℤ, true, inl, inr, List, [], ◌∷◌, ◌++◌, refl, sym, ◌∙◌, ap, append_assoc}
use Rattle.std.proofs.lemmas.Bool.{and_from}
use Rattle.std.proofs.lemmas.List.{append-nil}
use Rattle.std.proofs.lemmas.List.Folds.{list_all-append}
use Rattle.vec_literal.specs.Int8.{is_space, IsBlank, SpellsNumber, SpellsElement, SpellsElements, SpellsList}

-- white space and more white space
pub blank_both : (v w : List ℕ) → IsBlank v → IsBlank w → IsBlank (v ++ w)
blank_both v w h k = list_all-append is_space v w ∙ and_from _ _ h k

pub blank_one : (b : ℕ) → is_space b ≡ true → IsBlank (b ∷ [])
blank_one b h = and_from _ _ h refl

pub blank_more : (w : List ℕ) (b : ℕ) → IsBlank w → is_space b ≡ true → IsBlank (w ++ b ∷ [])
blank_more w b h k = blank_both w (b ∷ []) h (blank_one b k)

-- a number with no white space is an element
pub bare_element : (t : List ℕ) (z : ℤ) → SpellsNumber t z → SpellsElement t z
bare_element t z h = record {
  before = [];
  number = t;
  after = [];
  whole = sym (append-nil t);
  blank_before = refl;
  spelled = h;
  blank_after = refl;
}

-- white space before an element
pub element_after_space : (w e : List ℕ) (z : ℤ) → IsBlank w → SpellsElement e z → SpellsElement (w ++ e) z
element_after_space w e z h s = record {
  before = w ++ s.before;
  number = s.number;
  after = s.after;
  whole = ap (λ (x : List ℕ). w ++ x) s.whole ∙ sym (append_assoc w s.before (s.number ++ s.after));
  blank_before = blank_both w s.before h s.blank_before;
  spelled = s.spelled;
  blank_after = s.blank_after;
}

-- white space behind an element
pub element_before_space : (e : List ℕ) (z : ℤ) (b : ℕ) → is_space b ≡ true → SpellsElement e z → SpellsElement (e ++ b ∷ []) z
element_before_space e z b h s = record {
  before = s.before;
  number = s.number;
  after = s.after ++ b ∷ [];
  whole = ap (λ (x : List ℕ). x ++ b ∷ []) s.whole ∙ simp append_assoc;
  blank_before = s.blank_before;
  spelled = s.spelled;
  blank_after = blank_more s.after b s.blank_after h;
}

-- white space behind elements
pub elements_before_space : (inside : List ℕ) (zs : List ℤ) (b : ℕ) → is_space b ≡ true → SpellsElements inside zs → SpellsElements (inside ++ b ∷ []) zs
elements_before_space inside [] b h s = s
elements_before_space inside (z ∷ []) b h s = element_before_space inside z b h s
elements_before_space inside (z ∷ y ∷ zs) b h (first, rest, whole, head, tail) =
    (first, rest ++ b ∷ [], ap (λ (x : List ℕ). x ++ b ∷ []) whole ∙ append_assoc first (44 ∷ rest) (b ∷ []), head, elements_before_space rest (y ∷ zs) b h tail)

-- one element more, behind a comma
pub elements_more : (inside : List ℕ) (zs : List ℤ) (e : List ℕ) (z : ℤ) → SpellsElements inside zs → SpellsElement e z → SpellsElements (inside ++ 44 ∷ e) (zs ++ z ∷ [])
elements_more inside [] e z s k = absurd s
elements_more inside (y ∷ []) e z s k = (inside, e, refl, s, k)
elements_more inside (y ∷ x ∷ zs) e z (first, rest, whole, head, tail) k =
    (first, rest ++ 44 ∷ e, ap (λ (w : List ℕ). w ++ 44 ∷ e) whole ∙ append_assoc first (44 ∷ rest) (44 ∷ e), head, elements_more rest (x ∷ zs) e z tail k)

-- the text so far: a bracket and elements
pub record Listed (p : List ℕ) (zs : List ℤ) : Type 0 where
  pub before : List ℕ
  pub inside : List ℕ
  pub whole : p ≡ before ++ 91 ∷ inside
  pub blank : IsBlank before
  pub elements : SpellsElements inside zs

-- the text so far: a bracket and no element yet
pub record Opens (p : List ℕ) : Type 0 where
  pub before : List ℕ
  pub inside : List ℕ
  pub whole : p ≡ before ++ 91 ∷ inside
  pub blank : IsBlank before
  pub none : IsBlank inside

-- the text so far: an element is due, and any element may follow
pub record Awaits (p : List ℕ) (zs : List ℤ) : Type 0 where
  pub then_listed : (e : List ℕ) (z : ℤ) → SpellsElement e z → Listed (p ++ e) (zs ++ z ∷ [])

-- behind the bracket an element is due
pub opens_awaits : (p : List ℕ) → Opens p → Awaits p []
opens_awaits p o = record {
  then_listed = λ e z s. record {
    before = o.before;
    inside = o.inside ++ e;
    whole = ap (λ (x : List ℕ). x ++ e) o.whole ∙ append_assoc o.before (91 ∷ o.inside) e;
    blank = o.blank;
    elements = element_after_space o.inside e z o.none s;
  };
}

-- white space behind the bracket
pub opens_space : (p : List ℕ) (b : ℕ) → is_space b ≡ true → Opens p → Opens (p ++ b ∷ [])
opens_space p b h o = record {
  before = o.before;
  inside = o.inside ++ b ∷ [];
  whole = ap (λ (x : List ℕ). x ++ b ∷ []) o.whole ∙ append_assoc o.before (91 ∷ o.inside) (b ∷ []);
  blank = o.blank;
  none = blank_more o.inside b o.none h;
}

-- the list without elements
pub opens_closed : (p : List ℕ) → Opens p → SpellsList (p ++ 93 ∷ []) []
opens_closed p o = record {
  before = o.before;
  inside = o.inside;
  after = [];
  whole = ap (λ (x : List ℕ). x ++ 93 ∷ []) o.whole ∙ append_assoc o.before (91 ∷ o.inside) (93 ∷ []);
  blank_before = o.blank;
  elements = inl (refl, o.none);
  blank_after = refl;
}

-- white space where an element is due
pub awaits_space : (p : List ℕ) (zs : List ℤ) (b : ℕ) → is_space b ≡ true → Awaits p zs → Awaits (p ++ b ∷ []) zs
awaits_space p zs b h a = record {
  then_listed = λ e z s. rw append_assoc (a.then_listed (b ∷ e) z (element_after_space (b ∷ []) e z (blank_one b h) s));
}

-- behind a comma an element is due
pub listed_comma : (p : List ℕ) (zs : List ℤ) → Listed p zs → Awaits (p ++ 44 ∷ []) zs
listed_comma p zs l = record {
  then_listed = λ e z s. record {
    before = l.before;
    inside = l.inside ++ 44 ∷ e;
    whole = append_assoc p (44 ∷ []) e ∙ ap (λ (x : List ℕ). x ++ 44 ∷ e) l.whole ∙ append_assoc l.before (91 ∷ l.inside) (44 ∷ e);
    blank = l.blank;
    elements = elements_more l.inside zs e z l.elements s;
  };
}

-- white space behind the elements so far
pub listed_space : (p : List ℕ) (zs : List ℤ) (b : ℕ) → is_space b ≡ true → Listed p zs → Listed (p ++ b ∷ []) zs
listed_space p zs b h l = record {
  before = l.before;
  inside = l.inside ++ b ∷ [];
  whole = ap (λ (x : List ℕ). x ++ b ∷ []) l.whole ∙ append_assoc l.before (91 ∷ l.inside) (b ∷ []);
  blank = l.blank;
  elements = elements_before_space l.inside zs b h l.elements;
}

-- the list with its elements
pub listed_closed : (p : List ℕ) (zs : List ℤ) → Listed p zs → SpellsList (p ++ 93 ∷ []) zs
listed_closed p zs l = record {
  before = l.before;
  inside = l.inside;
  after = [];
  whole = ap (λ (x : List ℕ). x ++ 93 ∷ []) l.whole ∙ append_assoc l.before (91 ∷ l.inside) (93 ∷ []);
  blank_before = l.blank;
  elements = inr l.elements;
  blank_after = refl;
}

-- white space behind the list
pub list_space : (p : List ℕ) (zs : List ℤ) (b : ℕ) → is_space b ≡ true → SpellsList p zs → SpellsList (p ++ b ∷ []) zs
list_space p zs b h s = record {
  before = s.before;
  inside = s.inside;
  after = s.after ++ b ∷ [];
  whole = ap (λ (x : List ℕ). x ++ b ∷ []) s.whole ∙ simp append_assoc;
  blank_before = s.blank_before;
  elements = s.elements;
  blank_after = blank_more s.after b s.blank_after h;
}
