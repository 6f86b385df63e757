-- What is made of the parts of a statement.
use Rattle.std.proofs.Common.{◌≡◌, ℕ, ◌+◌, ◌<◌, List, [], ◌∷◌, ◌++◌, length, take, drop, get_or, map, Option, Some, None, Result, Ok, Err, refl, sym, ◌∙◌, ap, subst, append_assoc, append-nil}
use Rattle.std.specs.Prelude.{Bool, IsErrAnd, false, MatchBool, MatchOption, IfOk}
use Rattle.std.specs.Option.{is_some}
use Rattle.std.specs.List.{AllByRecursion, flat_map}
use Rattle.std.proofs.lemmas.Grind.{flat_map-append}
use Rattle.std.proofs.lemmas.Result.{err_from_is_err_and}
use Rattle.std.proofs.lemmas.List.{take_more, drop_more, take-append-drop, map-id}
use Rattle.vec_base.specs.declared.value.Value.{Value}
use Rattle.vec_base.specs.declared.value.Value.TheVariants as values
use Rattle.vec_literal.specs.Int8.{SpellsInt8}
use Rattle.vec_literal.specs.LiteralValues.{undoubled}
use Rattle.vec_literal.proofs.Enclosed.{quoted_spells, undoubled_spells}
use Rattle.sql_reader.specs.declared.flaw.Flaw.{Flaw}
use Rattle.sql_reader.specs.declared.flaw.Flaw.TheVariants as flaws
use Rattle.sql_reader.specs.declared.given.Given.{Given}
use Rattle.sql_reader.specs.declared.given.Given.TheVariants as givens
use Rattle.sql_reader.specs.GivenStatements.{Check, literal, checks_of, Use, int8}
use Rattle.sql_reader.specs.inner.PartMeanings.{AllPassed, AreTaken, IsPartMeaning}
use Rattle.sql_reader.specs.StatementReading.{Each, place_of, Passes, IsFirstFailing, IsTaken, Takes, GivesInt8}

-- ---- one value

text_gives_some : (read : Option (List ℕ)) (text : List ℕ) → MatchOption read ((vector : List ℕ) → SpellsInt8 text vector → ⊥) (λ vector. SpellsInt8 text vector) →
    MatchOption read (Takes int8 (values.Text text) → ⊥) (λ vector. GivesInt8 (values.Text text) (values.Int8 vector))
text_gives_some None text h = λ taken. h taken.0 taken.1
text_gives_some (Some vector) text h = (vector, h, refl)

text_gives_same : {E : Type 0} (r : Result (Option (List ℕ)) E) (text : List ℕ) → IfOk r (λ read. MatchOption read ((vector : List ℕ) → SpellsInt8 text vector → ⊥) (λ vector. SpellsInt8 text vector)) →
    IfOk r (λ read. MatchOption read (Takes int8 (values.Text text) → ⊥) (λ vector. GivesInt8 (values.Text text) (values.Int8 vector)))
text_gives_same (Ok read) text h = text_gives_some read text h
text_gives_same (Err e) text h = tt

-- a parameter that is a text
pub text_gives : {E : Type 0} (r : Result (Option (List ℕ)) E) (text spelled : List ℕ) (value : Value) → spelled ≡ text → value ≡ values.Text text →
    IfOk r (λ read. MatchOption read ((vector : List ℕ) → SpellsInt8 spelled vector → ⊥) (λ vector. SpellsInt8 spelled vector)) →
    IfOk r (λ read. MatchOption read (Takes int8 value → ⊥) (λ vector. GivesInt8 value (values.Int8 vector)))
text_gives r text spelled value e k h =
    subst (λ (v : Value). IfOk r (λ read. MatchOption read (Takes int8 v → ⊥) (λ vector. GivesInt8 v (values.Int8 vector)))) (sym k)
    (text_gives_same r text (subst (λ (z : List ℕ). IfOk r (λ read. MatchOption read ((vector : List ℕ) → SpellsInt8 z vector → ⊥) (λ vector. SpellsInt8 z vector))) e h))

abbrev Spelled : List ℕ → Option (List ℕ) → Type 0
Spelled text read = MatchOption read ((vector : List ℕ) → SpellsInt8 text vector → ⊥) (λ vector. SpellsInt8 text vector)

-- what is quoted is read as it is spelled
quoted_read : (spelling : List ℕ) (read : Option (List ℕ)) → Spelled spelling read → Spelled (undoubled false spelling) read
quoted_read spelling None h = λ vector s. h vector (quoted_spells spelling vector s)
quoted_read spelling (Some vector) h = undoubled_spells spelling vector h

quoted_same : {E : Type 0} (spelling : List ℕ) (r : Result (Option (List ℕ)) E) → IfOk r (λ read. Spelled spelling read) → IfOk r (λ read. Spelled (undoubled false spelling) read)
quoted_same spelling (Ok read) h = quoted_read spelling read h
quoted_same spelling (Err e) h = tt

pub quoted_gives : {E : Type 0} (quoted spelling : List ℕ) (r : Result (Option (List ℕ)) E) → quoted ≡ undoubled false spelling →
    IfOk r (λ read. MatchOption read ((vector : List ℕ) → SpellsInt8 spelling vector → ⊥) (λ vector. SpellsInt8 spelling vector)) →
    IfOk r (λ read. MatchOption read ((vector : List ℕ) → SpellsInt8 quoted vector → ⊥) (λ vector. SpellsInt8 quoted vector))
quoted_gives quoted spelling r e h = subst (λ (z : List ℕ). IfOk r (λ read. Spelled z read)) (sym e) (quoted_same spelling r h)

pub none_spelled : (read : Option (List ℕ)) (text : List ℕ) → read ≡ None → MatchOption read ((vector : List ℕ) → SpellsInt8 text vector → ⊥) (λ vector. SpellsInt8 text vector) → (vector : List ℕ) → SpellsInt8 text vector → ⊥
none_spelled None text e h = h
none_spelled (Some v) text e h = absurd cc

only_failing : (failing : Check) (place : ℕ) → (Passes failing → ⊥) → place ≡ place_of failing → IsFirstFailing (failing ∷ []) place
only_failing failing place f e = record { before = []; failing = failing; behind = []; whole = refl; passed = tt; not_passed = f; place = e }

-- a text that spells no vector
pub failing_text : (place : ℕ) (text : List ℕ) (given : Given) → given ≡ givens.Int8Text place text → ((vector : List ℕ) → SpellsInt8 text vector → ⊥) → IsFirstFailing (checks_of given) place
failing_text place text given e none = subst (λ (g : Given). IsFirstFailing (checks_of g) place) (sym e) (only_failing (literal place text) place (λ passed. none passed.0 passed.1) refl)

-- ---- lists, element by element

-- what is made of the elements so far
pub record Progress {X Y : Type 0} (cs : X → List Check) (us : X → List Use) (params : List Value) (M : X → Y → Type 0) (front : List X) (made : List Y) : Type 0 where
  pub passed : AllPassed (flat_map cs front)
  pub means : AreTaken params (flat_map us front) → Each M front made

pub all_append : {A : Type 0} (P : A → Type 0) (xs ys : List A) → AllByRecursion P xs → AllByRecursion P ys → AllByRecursion P (xs ++ ys)
all_append P [] ys h k = k
all_append P (x ∷ xs) ys h k = (h.0, all_append P xs ys h.1 k)

all_front : {A : Type 0} (P : A → Type 0) (xs ys : List A) → AllByRecursion P (xs ++ ys) → AllByRecursion P xs
all_front P [] ys h = tt
all_front P (x ∷ xs) ys h = (h.0, all_front P xs ys h.1)

all_behind : {A : Type 0} (P : A → Type 0) (xs ys : List A) → AllByRecursion P (xs ++ ys) → AllByRecursion P ys
all_behind P [] ys h = h
all_behind P (x ∷ xs) ys h = all_behind P xs ys h.1

each_append : {X Y : Type 0} (M : X → Y → Type 0) (xs : List X) (ys : List Y) (x : X) (y : Y) → Each M xs ys → M x y → Each M (xs ++ x ∷ []) (ys ++ y ∷ [])
each_append M [] [] x y h k = (k, tt)
each_append M [] (z ∷ ys) x y h k = absurd h
each_append M (w ∷ xs) [] x y h k = absurd h
each_append M (w ∷ xs) (z ∷ ys) x y h k = (h.0, each_append M xs ys x y h.1 k)

-- one element more of a flat map
pub flat_more : {X A : Type 0} (f : X → List A) (xs : List X) (x : X) → flat_map f (xs ++ x ∷ []) ≡ flat_map f xs ++ f x
flat_more f xs x = flat_map-append f xs (x ∷ []) ∙ ap (λ z. flat_map f xs ++ z) (append-nil (f x))

pub progress_more : {X Y : Type 0} (cs : X → List Check) (us : X → List Use) (params : List Value) (M : X → Y → Type 0) (front more : List X) (x : X) (made new : List Y) (y : Y) →
    Progress cs us params M front made → IsPartMeaning (cs x) (AreTaken params (us x)) (M x) (Ok y) → more ≡ front ++ x ∷ [] → new ≡ made ++ y ∷ [] → Progress cs us params M more new
progress_more cs us params M front more x made new y p m e k = record {
  passed = subst (λ z. AllPassed (flat_map cs z)) (sym e) (subst (λ z. AllPassed z) (sym (flat_more cs front x)) (all_append Passes (flat_map cs front) (cs x) p.passed m.0));
  means = λ taken. (let all : AreTaken params (flat_map us front ++ us x) = subst (λ z. AreTaken params z) (ap (λ z. flat_map us z) e ∙ flat_more us front x) taken in
      subst (λ z. Each M z new) (sym e) (subst (λ z. Each M (front ++ x ∷ []) z) (sym k)
      (each_append M front made x y (p.means (all_front (IsTaken params) (flat_map us front) (us x) all)) (m.1 (all_behind (IsTaken params) (flat_map us front) (us x) all)))));
}

-- the first failing one behind passed ones
failing_behind : (passed_ones all more : List Check) (place : ℕ) → AllPassed passed_ones → IsFirstFailing all place → IsFirstFailing (passed_ones ++ (all ++ more)) place
failing_behind passed_ones all more place f b = record {
  before = passed_ones ++ b.before;
  failing = b.failing;
  behind = b.behind ++ more;
  whole = ap (λ z. passed_ones ++ (z ++ more)) b.whole ∙ (ap (λ z. passed_ones ++ z) (append_assoc b.before (b.failing ∷ b.behind) more) ∙ sym (append_assoc passed_ones b.before (b.failing ∷ (b.behind ++ more))));
  passed = all_append Passes passed_ones b.before f b.passed;
  not_passed = b.not_passed;
  place = b.place;
}

-- a flaw behind what is passed
pub flaw_behind : {Y Z : Type 0} (passed_ones all more whole : List Check) (Taken Others : Type 0) (M : Y → Type 0) (N : Z → Type 0) (e : Flaw) →
    AllPassed passed_ones → whole ≡ passed_ones ++ (all ++ more) → IsPartMeaning all Taken M (Err e) → IsPartMeaning whole Others N (Err e)
flaw_behind passed_ones all more whole Taken Others M N flaws.Memory f e m = tt
flaw_behind passed_ones all more whole Taken Others M N (flaws.Place place) f e m = subst (λ z. IsFirstFailing z place) (sym e) (failing_behind passed_ones all more place f m)
flaw_behind passed_ones all more whole Taken Others M N (flaws.Rule rule) f e m = absurd m

pub progress_flaw : {X Y : Type 0} (cs : X → List Check) (us : X → List Use) (params : List Value) (M : X → Y → Type 0) (front rest all : List X) (x : X) (made : List Y) (e : Flaw) →
    Progress cs us params M front made → all ≡ front ++ (x ∷ rest) → IsPartMeaning (cs x) (AreTaken params (us x)) (M x) (Err e) →
    IsPartMeaning {Y = List Y} (flat_map cs all) (AreTaken params (flat_map us all)) (λ y. Each M all y) (Err e)
progress_flaw {X} {Y} cs us params M front rest all x made e p w m =
    flaw_behind {Z = List Y} (flat_map cs front) (cs x) (flat_map cs rest) (flat_map cs all) (AreTaken params (us x)) (AreTaken params (flat_map us all)) (M x) (λ y. Each M all y) e p.passed
    (ap (λ z. flat_map cs z) w ∙ flat_map-append cs front (x ∷ rest)) m

-- an element at its place
pub taken_more : {X : Type 0} (xs : List X) (i : ℕ) (x : X) → i < length xs → x ≡ get_or xs i x → take (i + 1) xs ≡ take i xs ++ x ∷ []
taken_more xs i x l e = take_more xs i x l ∙ ap (λ z. take i xs ++ z ∷ []) (sym e)

split_at : {X : Type 0} (xs : List X) (i : ℕ) (x : X) → i < length xs → x ≡ get_or xs i x → xs ≡ take i xs ++ (x ∷ drop (i + 1) xs)
split_at xs i x l e = sym (take-append-drop i xs) ∙ ap (λ z. take i xs ++ z) (drop_more xs i x l ∙ ap (λ z. z ∷ drop (i + 1) xs) (sym e))

-- the next element of those that are moved out of a list
pub split_next : {X : Type 0} (front all : List X) (x : X) → map (λ y. y) front ≡ take (length front) all → (length front < length all) × (x ≡ get_or all (length front) x) → all ≡ front ++ (x ∷ drop (length front + 1) all)
split_next {X} front all x e h = split_at all (length front) x h.0 h.1 ∙ ap (λ (z : List X). z ++ (x ∷ drop (length front + 1) all)) (sym e ∙ map-id front)

-- ---- two parts

pub flaw_first : {Y Z : Type 0} (all more : List Check) (Taken Others : Type 0) (M : Y → Type 0) (N : Z → Type 0) (e : Flaw) → IsPartMeaning all Taken M (Err e) → IsPartMeaning (all ++ more) Others N (Err e)
flaw_first all more Taken Others M N e m = flaw_behind [] all more (all ++ more) Taken Others M N e tt refl m

pub flaw_second : {Y Z : Type 0} (passed_ones all : List Check) (Taken Others : Type 0) (M : Y → Type 0) (N : Z → Type 0) (e : Flaw) → AllPassed passed_ones → IsPartMeaning all Taken M (Err e) → IsPartMeaning (passed_ones ++ all) Others N (Err e)
flaw_second passed_ones all Taken Others M N e f m = flaw_behind passed_ones all [] (passed_ones ++ all) Taken Others M N e f (ap (λ z. passed_ones ++ z) (sym (append-nil all))) m

-- the same, handed on
pub first_fails : {Y Z : Type 0} (all more : List Check) (Taken Others : Type 0) (M : Y → Type 0) (N : Z → Type 0) (e : Flaw) (r : Result Z Flaw) → IsErrAnd r (λ d. d ≡ e) → IsPartMeaning all Taken M (Err e) → IsPartMeaning (all ++ more) Others N r
first_fails {Y} {Z} all more Taken Others M N e r h m =
    let p = err_from_is_err_and r h in
    subst (λ (z : Result Z Flaw). IsPartMeaning (all ++ more) Others N z) (sym (p.1 ∙ ap Err p.2)) (flaw_first {Y = Y} {Z = Z} all more Taken Others M N e m)

pub second_fails : {Y Z : Type 0} (passed_ones all : List Check) (Taken Others : Type 0) (M : Y → Type 0) (N : Z → Type 0) (e : Flaw) (r : Result Z Flaw) → IsErrAnd r (λ d. d ≡ e) → AllPassed passed_ones → IsPartMeaning all Taken M (Err e) → IsPartMeaning (passed_ones ++ all) Others N r
second_fails {Y} {Z} passed_ones all Taken Others M N e r h f m =
    let p = err_from_is_err_and r h in
    subst (λ (z : Result Z Flaw). IsPartMeaning (passed_ones ++ all) Others N z) (sym (p.1 ∙ ap Err p.2)) (flaw_second {Y = Y} {Z = Z} passed_ones all Taken Others M N e f m)

pub passed_both : (xs ys : List Check) → AllPassed xs → AllPassed ys → AllPassed (xs ++ ys)
passed_both xs ys h k = all_append Passes xs ys h k

pub taken_first : (params : List Value) (xs ys : List Use) → AreTaken params (xs ++ ys) → AreTaken params xs
taken_first params xs ys h = all_front (IsTaken params) xs ys h

pub taken_second : (params : List Value) (xs ys : List Use) → AreTaken params (xs ++ ys) → AreTaken params ys
taken_second params xs ys h = all_behind (IsTaken params) xs ys h

-- a parameter that is a text is taken exactly where it spells a vector
text_taken_by : (read : Option (List ℕ)) (text : List ℕ) → MatchOption read ((vector : List ℕ) → SpellsInt8 text vector → ⊥) (λ vector. SpellsInt8 text vector) →
    MatchBool (is_some read) (Takes int8 (values.Text text)) (Takes int8 (values.Text text) → ⊥)
text_taken_by None text h = λ taken. h taken.0 taken.1
text_taken_by (Some vector) text h = (vector, h)

pub text_taken : (read : Option (List ℕ)) (text spelled : List ℕ) (value : Value) (taken : Bool) → spelled ≡ text → value ≡ values.Text text →
    MatchOption read ((vector : List ℕ) → SpellsInt8 spelled vector → ⊥) (λ vector. SpellsInt8 spelled vector) → taken ≡ is_some read → MatchBool taken (Takes int8 value) (Takes int8 value → ⊥)
text_taken read text spelled value taken e k h t =
    subst (λ (b : Bool). MatchBool b (Takes int8 value) (Takes int8 value → ⊥)) (sym t)
    (subst (λ (v : Value). MatchBool (is_some read) (Takes int8 v) (Takes int8 v → ⊥)) (sym k)
    (text_taken_by read text (subst (λ (z : List ℕ). MatchOption read ((vector : List ℕ) → SpellsInt8 z vector → ⊥) (λ vector. SpellsInt8 z vector)) e h)))
