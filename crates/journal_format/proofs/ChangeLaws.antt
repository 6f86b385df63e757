-- What is read of a body is spelled so, what is spelled so is read, and reading takes the changes one after the other.
use Rattle.std.proofs.Common.{◌≡◌, ◌⊎◌, ℕ, zero, suc, ◌^◌, ◌<◌, ◌≤◌, Bool, true, false, cond, eqb, ltb, List, [], ◌∷◌, ◌++◌, length, take, drop, Option, Some, None, refl, ap, subst, ◌∙◌, append_assoc, arith, inl, inr, ⊎_elim, eq-eqb, length-drop}
use Rattle.std.specs.Prelude.{◌&&◌}
use Rattle.std.specs.List.{flat_map}
use Rattle.std.specs.Int.{Width, w32, w64, byte_len, to_le_bytes}
use Rattle.std.proofs.lemmas.Bool.{eqb-true}
use Rattle.std.proofs.lemmas.List.{append-nil}
use Rattle.vec_base.specs.declared.shadow.ShadowKey.{ShadowKey}
use Rattle.vec_base.specs.declared.shadow.Change.{Change}
use Rattle.vec_base.specs.declared.shadow.Change.TheVariants.{Put, Fill, Remove, Patch}
use Rattle.vec_base.specs.Representable.{AreBytes}
use Rattle.shadow_records.specs.Keys.{Tables}
use Rattle.journal_format.specs.Fitting.{all_apply}
use Rattle.journal_format.specs.Format.{key_bytes, counted, change_bytes, body_bytes, IsKey, IsWhole, AreWhole}
use Rattle.journal_format.specs.Fields.{◌>>=◌, number_at, byte_at, bytes_at, key_at, counted_at, change_with, change_at, changes_in, changes_of}
use Rattle.journal_format.specs.Reading.{batch_of}
use Rattle.journal_format.proofs.FieldLaws.{bind_some, guard_some, some_is, Takes, Takes-then, wide32, wide64, number_takes, number_again, counted_takes, counted_again, byte_takes, key_takes, key_again}

-- ---- lengths

pub number_less : (w : Width) (bytes : List ℕ) (x : ℕ × List ℕ) → number_at w bytes ≡ Some x → length x.1 ≤ length bytes
number_less w bytes x e =
    let g = guard_some (ltb (length bytes) (byte_len w)) _ x e in
    subst (λ (p : ℕ × List ℕ). length p.1 ≤ length bytes) g.1 (omega (arith, length-drop (byte_len w) bytes))

bytes_less : (n : ℕ) (bytes : List ℕ) (x : List ℕ × List ℕ) → bytes_at n bytes ≡ Some x → length x.1 ≤ length bytes
bytes_less n bytes x e =
    let g = guard_some (ltb (length bytes) n) (take n bytes, drop n bytes) x e in
    subst (λ (p : List ℕ × List ℕ). length p.1 ≤ length bytes) g.1 (omega (arith, length-drop n bytes))

byte_less : (bytes : List ℕ) (x : ℕ × List ℕ) → byte_at bytes ≡ Some x → length x.1 < length bytes
byte_less [] x e = absurd cc
byte_less (b ∷ bytes) x e = subst (λ (p : ℕ × List ℕ). length p.1 < suc (length bytes)) (some_is (b, bytes) x e) (omega arith)

counted_less : (bytes : List ℕ) (x : List ℕ × List ℕ) → counted_at bytes ≡ Some x → length x.1 ≤ length bytes
unfolding counted_at
counted_less bytes x e =
    let b = bind_some (number_at w32 bytes) (λ n. bytes_at n.0 n.1) x e in
    omega (arith, number_less w32 bytes b.0 b.1, bytes_less b.0.0 b.0.1 x b.2)

key_less : (bytes : List ℕ) (x : ShadowKey × List ℕ) → key_at bytes ≡ Some x → length x.1 ≤ length bytes
unfolding key_at
key_less bytes x e =
    let a = bind_some (number_at w32 bytes) _ x e in
    let b = bind_some (byte_at a.0.1) _ x a.2 in
    let c = bind_some (number_at w64 b.0.1) _ x b.2 in
    let d = bind_some (number_at w64 c.0.1) _ x c.2 in
    let last : d.0.1 ≡ x.1 = ap (λ (p : ShadowKey × List ℕ). p.1) (some_is _ x d.2) in
    omega (arith, ap length last, number_less w32 bytes a.0 a.1, byte_less a.0.1 b.0 b.1, number_less w64 b.0.1 c.0 c.1, number_less w64 c.0.1 d.0 d.1)

pub chosen : {A : Type 0} (b : Bool) (x y z : A) → cond b x y ≡ z → ((b ≡ true) × (x ≡ z)) ⊎ ((b ≡ false) × (y ≡ z))
chosen true x y z e = inl (refl, e)
chosen false x y z e = inr (refl, e)

pub none_some : {A : Type 0} (x : A) → None ≡ Some x → ⊥
none_some x e = cc

and_true : (a b : Bool) → (a && b) ≡ true → (a ≡ true) × (b ≡ true)
and_true true b e = (refl, e)
and_true false b e = absurd cc

-- the four tags
pub data IsChange (tag : ℕ) (key : ShadowKey) (bytes : List ℕ) (x : Change × List ℕ) : Type 0 where
  put : (body : List ℕ × List ℕ) → tag ≡ 1 → counted_at bytes ≡ Some body → (Put key body.0, body.1) ≡ x → IsChange tag key bytes x
  fill : (n : ℕ × List ℕ) → tag ≡ 2 → number_at w32 bytes ≡ Some n → (Fill key n.0, n.1) ≡ x → IsChange tag key bytes x
  remove : tag ≡ 3 → (Remove key, bytes) ≡ x → IsChange tag key bytes x
  patch : (at : ℕ × List ℕ) (part : List ℕ × List ℕ) → tag ≡ 4 → number_at w32 bytes ≡ Some at → counted_at at.1 ≡ Some part → (Patch key at.0 part.0, part.1) ≡ x → IsChange tag key bytes x

pub with_cases : (tag : ℕ) (key : ShadowKey) (bytes : List ℕ) (x : Change × List ℕ) → change_with tag key bytes ≡ Some x → IsChange tag key bytes x
unfolding change_with
with_cases tag key bytes x e =
    ⊎_elim (λ one. let b = bind_some (counted_at bytes) _ x one.1 in put b.0 (eqb-true _ _ one.0) b.1 (some_is _ x b.2)) (λ n1.
    ⊎_elim (λ two. let b = bind_some (number_at w32 bytes) _ x two.1 in fill b.0 (eqb-true _ _ two.0) b.1 (some_is _ x b.2)) (λ n2.
    ⊎_elim (λ three. remove (eqb-true _ _ three.0) (some_is _ x three.1)) (λ n3.
    ⊎_elim (λ four. let b = bind_some (number_at w32 bytes) _ x four.1 in let d = bind_some (counted_at b.0.1) _ x b.2 in patch b.0 d.0 (eqb-true _ _ four.0) b.1 d.1 (some_is _ x d.2)) (λ n4. absurd (none_some x n4.1))
    (chosen (eqb tag 4) _ _ _ n3.1)) (chosen (eqb tag 3) _ _ _ n2.1)) (chosen (eqb tag 2) _ _ _ n1.1)) (chosen (eqb tag 1) _ _ _ e)

with_less : (tag : ℕ) (key : ShadowKey) (bytes : List ℕ) (x : Change × List ℕ) → IsChange tag key bytes x → length x.1 ≤ length bytes
with_less tag key bytes x (put body t e is) = omega (arith, counted_less bytes body e, ap (λ (p : Change × List ℕ). length p.1) is)
with_less tag key bytes x (fill n t e is) = omega (arith, number_less w32 bytes n e, ap (λ (p : Change × List ℕ). length p.1) is)
with_less tag key bytes x (remove t is) = omega (arith, ap (λ (p : Change × List ℕ). length p.1) is)
with_less tag key bytes x (patch at part t e f is) = omega (arith, number_less w32 bytes at e, counted_less at.1 part f, ap (λ (p : Change × List ℕ). length p.1) is)

pub change_less : (bytes : List ℕ) (x : Change × List ℕ) → change_at bytes ≡ Some x → length x.1 < length bytes
unfolding change_at
change_less bytes x e =
    let a = bind_some (byte_at bytes) _ x e in
    let b = bind_some (key_at a.0.1) _ x a.2 in
    omega (arith, byte_less bytes a.0 a.1, key_less a.0.1 b.0 b.1, with_less a.0.0 b.0.0 b.0.1 x (with_cases a.0.0 b.0.0 b.0.1 x b.2))

-- ---- the first number only ends the recursion

same_after : (r s : Option (Change × List ℕ)) (f g : Change × List ℕ → Option (List Change)) → r ≡ s → ((x : Change × List ℕ) → s ≡ Some x → f x ≡ g x) → (r >>= f) ≡ (s >>= g)
same_after None None f g e h = refl
same_after None (Some y) f g e h = absurd cc
same_after (Some x) None f g e h = absurd cc
same_after (Some x) (Some y) f g e h = ap f (some_is x y e) ∙ h y refl

pub enough : (f g : ℕ) (bytes : List ℕ) → length bytes ≤ f → length bytes ≤ g → changes_in f bytes ≡ changes_in g bytes
unfolding changes_in
enough zero zero [] p q = refl
enough zero (suc g) [] p q = refl
enough (suc f) zero [] p q = refl
enough (suc f) (suc g) [] p q = refl
enough zero g (b ∷ bytes) p q = absurd (omega arith)
enough (suc f) zero (b ∷ bytes) p q = absurd (omega arith)
enough (suc f) (suc g) (b ∷ bytes) p q = same_after (change_at (b ∷ bytes)) (change_at (b ∷ bytes)) _ _ refl (λ x e.
    let less = change_less (b ∷ bytes) x e in
    ap (λ r. r >>= λ others. Some (x.0 ∷ others)) (enough f g x.1 (omega arith) (omega arith)))

-- one change, and then the others
pub changes_more : (bytes : List ℕ) → 0 < length bytes → changes_of bytes ≡ (change_at bytes >>= λ first. changes_of first.1 >>= λ others. Some (first.0 ∷ others))
unfolding changes_in
changes_more [] p = absurd (omega arith)
changes_more (b ∷ bytes) p = same_after (change_at (b ∷ bytes)) (change_at (b ∷ bytes)) _ _ refl (λ x e.
    let less = change_less (b ∷ bytes) x e in
    ap (λ r. r >>= λ others. Some (x.0 ∷ others)) (enough (length bytes) (length x.1) x.1 (omega arith) (omega arith)))

pub changes_none : changes_of [] ≡ Some []
unfolding changes_in
changes_none = refl

-- ---- what is read is spelled so

with_takes : (tag : ℕ) (key : ShadowKey) (bytes : List ℕ) (x : Change × List ℕ) → AreBytes bytes → IsKey key → IsChange tag key bytes x → (text : List ℕ) × Takes bytes text x.1 × (tag ∷ (key_bytes key ++ text) ≡ change_bytes x.0) × IsWhole x.0
with_takes tag key bytes x fits is (put body t e eq) =
    let took = counted_takes bytes body.0 body.1 fits e in
    subst (λ (p : Change × List ℕ). (text : List ℕ) × Takes bytes text p.1 × (tag ∷ (key_bytes key ++ text) ≡ change_bytes p.0) × IsWhole p.0) eq
    (counted body.0, took.0, ap (λ (n : ℕ). n ∷ (key_bytes key ++ counted body.0)) t, (is, took.1))
with_takes tag key bytes x fits is (fill n t e eq) =
    let took = number_takes w32 (2 ^ 32) wide32 bytes n.0 n.1 fits e in
    subst (λ (p : Change × List ℕ). (text : List ℕ) × Takes bytes text p.1 × (tag ∷ (key_bytes key ++ text) ≡ change_bytes p.0) × IsWhole p.0) eq
    (to_le_bytes w32 n.0, took.0, ap (λ (k : ℕ). k ∷ (key_bytes key ++ to_le_bytes w32 n.0)) t, (is, took.1))
with_takes tag key bytes x fits is (remove t eq) =
    subst (λ (p : Change × List ℕ). (text : List ℕ) × Takes bytes text p.1 × (tag ∷ (key_bytes key ++ text) ≡ change_bytes p.0) × IsWhole p.0) eq
    ([], record { parts = refl; rest_fits = fits }, ap (λ (k : ℕ). k ∷ (key_bytes key ++ [])) t ∙ ap (λ (l : List ℕ). 3 ∷ l) (append-nil (key_bytes key)), is)
with_takes tag key bytes x fits is (patch at part t e f eq) =
    let one = number_takes w32 (2 ^ 32) wide32 bytes at.0 at.1 fits e in
    let two = counted_takes at.1 part.0 part.1 one.0.rest_fits f in
    subst (λ (p : Change × List ℕ). (text : List ℕ) × Takes bytes text p.1 × (tag ∷ (key_bytes key ++ text) ≡ change_bytes p.0) × IsWhole p.0) eq
    (to_le_bytes w32 at.0 ++ counted part.0, Takes-then bytes (to_le_bytes w32 at.0) at.1 (counted part.0) part.1 one.0 two.0, ap (λ (k : ℕ). k ∷ (key_bytes key ++ (to_le_bytes w32 at.0 ++ counted part.0))) t, (is, one.1, two.1))

pub change_takes : (bytes : List ℕ) (x : Change × List ℕ) → AreBytes bytes → change_at bytes ≡ Some x → Takes bytes (change_bytes x.0) x.1 × IsWhole x.0
unfolding change_at
change_takes bytes x fits e =
    let a = bind_some (byte_at bytes) (λ tag. key_at tag.1 >>= λ key. change_with tag.0 key.0 key.1) x e in
    let b = bind_some (key_at a.0.1) (λ key. change_with a.0.0 key.0 key.1) x a.2 in
    let ta = byte_takes bytes a.0.0 a.0.1 fits a.1 in
    let tb = key_takes a.0.1 b.0.0 b.0.1 ta.0.rest_fits b.1 in
    let tc = with_takes a.0.0 b.0.0 b.0.1 x tb.0.rest_fits tb.1 (with_cases a.0.0 b.0.0 b.0.1 x b.2) in
    let bc = Takes-then a.0.1 (key_bytes b.0.0) b.0.1 tc.0 x.1 tb.0 tc.1 in
    let abc = Takes-then bytes (a.0.0 ∷ []) a.0.1 (key_bytes b.0.0 ++ tc.0) x.1 ta.0 bc in
    (subst (λ (t : List ℕ). Takes bytes t x.1) tc.2 abc, tc.3)

changes_take_in : (fuel : ℕ) (bytes : List ℕ) (cs : List Change) → AreBytes bytes → changes_in fuel bytes ≡ Some cs → (bytes ≡ flat_map change_bytes cs) × AreWhole cs
unfolding changes_in
changes_take_in zero [] cs fits e = subst (λ (l : List Change). ([] ≡ flat_map change_bytes l) × AreWhole l) (some_is [] cs e) (refl, tt)
changes_take_in (suc fuel) [] cs fits e = subst (λ (l : List Change). ([] ≡ flat_map change_bytes l) × AreWhole l) (some_is [] cs e) (refl, tt)
changes_take_in zero (b ∷ bytes) cs fits e = absurd cc
changes_take_in (suc fuel) (b ∷ bytes) cs fits e =
    let one = bind_some (change_at (b ∷ bytes)) (λ first. changes_in fuel first.1 >>= λ others. Some (first.0 ∷ others)) cs e in
    let two = bind_some (changes_in fuel one.0.1) (λ others. Some (one.0.0 ∷ others)) cs one.2 in
    let first = change_takes (b ∷ bytes) one.0 fits one.1 in
    let others = changes_take_in fuel one.0.1 two.0 first.0.rest_fits two.1 in
    subst (λ (l : List Change). (b ∷ bytes ≡ flat_map change_bytes l) × AreWhole l) (some_is (one.0.0 ∷ two.0) cs two.2)
    (first.0.parts ∙ ap (λ (l : List ℕ). change_bytes one.0.0 ++ l) others.0, (first.1, others.1))

pub changes_take : (bytes : List ℕ) (cs : List Change) → AreBytes bytes → changes_of bytes ≡ Some cs → (bytes ≡ flat_map change_bytes cs) × AreWhole cs
changes_take bytes cs fits e = changes_take_in (length bytes) bytes cs fits e

-- ---- what is spelled so is read

pub change_again : (change : Change) (rest : List ℕ) → IsWhole change → change_at (change_bytes change ++ rest) ≡ Some (change, rest)
unfolding change_at change_with
change_again (Put key body) rest is =
    ap (λ (l : List ℕ). key_at l >>= λ k. change_with 1 k.0 k.1) (append_assoc (key_bytes key) (counted body) rest)
    ∙ rw (key_again key (counted body ++ rest) is.0, counted_again body rest is.1) refl
change_again (Fill key n) rest is =
    ap (λ (l : List ℕ). key_at l >>= λ k. change_with 2 k.0 k.1) (append_assoc (key_bytes key) (to_le_bytes w32 n) rest)
    ∙ ap (λ r. r >>= λ k. change_with 2 k.0 k.1) (key_again key (to_le_bytes w32 n ++ rest) is.0)
    ∙ ap (λ r. r >>= λ (k : ℕ × List ℕ). Some (Fill key k.0, k.1)) (number_again w32 (2 ^ 32) wide32 n rest is.1)
change_again (Remove key) rest is = rw (key_again key rest is) refl
change_again (Patch key at bytes) rest is =
    ap (λ (l : List ℕ). key_at l >>= λ k. change_with 4 k.0 k.1) (append_assoc (key_bytes key) (to_le_bytes w32 at ++ counted bytes) rest)
    ∙ ap (λ r. r >>= λ k. change_with 4 k.0 k.1) (key_again key ((to_le_bytes w32 at ++ counted bytes) ++ rest) is.0)
    ∙ ap (λ (l : List ℕ). number_at w32 l >>= λ k. counted_at k.1 >>= λ part. Some (Patch key k.0 part.0, part.1)) (append_assoc (to_le_bytes w32 at) (counted bytes) rest)
    ∙ ap (λ r. r >>= λ (k : ℕ × List ℕ). counted_at k.1 >>= λ part. Some (Patch key k.0 part.0, part.1)) (number_again w32 (2 ^ 32) wide32 at (counted bytes ++ rest) is.1)
    ∙ ap (λ r. r >>= λ (part : List ℕ × List ℕ). Some (Patch key at part.0, part.1)) (counted_again bytes rest is.2)

some_bytes : (change : Change) (rest : List ℕ) → 0 < length (change_bytes change ++ rest)
some_bytes (Put key body) rest = omega arith
some_bytes (Fill key n) rest = omega arith
some_bytes (Remove key) rest = omega arith
some_bytes (Patch key at bytes) rest = omega arith

pub changes_again : (cs : List Change) → AreWhole cs → changes_of (flat_map change_bytes cs) ≡ Some cs
changes_again [] fits = changes_none
changes_again (c ∷ cs) fits =
    let rest = flat_map change_bytes cs in
    changes_more (change_bytes c ++ rest) (some_bytes c rest)
    ∙ ap (λ r. r >>= λ (first : Change × List ℕ). changes_of first.1 >>= λ others. Some (first.0 ∷ others)) (change_again c rest fits.0)
    ∙ ap (λ r. r >>= λ (others : List Change). Some (c ∷ others)) (changes_again cs fits.1)

-- ---- a batch

pub batch_again : (n : ℕ) (cs : List Change) (m : Tables) → n < 2 ^ 64 → AreWhole cs → all_apply cs m ≡ true → batch_of (body_bytes n cs) n m ≡ Some cs
unfolding batch_of body_bytes
batch_again n cs m small whole fit =
    ap (λ r. r >>= λ (number : ℕ × List ℕ). changes_of number.1 >>= λ changes. cond (eqb number.0 n && all_apply changes m) (Some changes) None) (number_again w64 (2 ^ 64) wide64 n (flat_map change_bytes cs) small)
    ∙ ap (λ r. r >>= λ (changes : List Change). cond (eqb n n && all_apply changes m) (Some changes) None) (changes_again cs whole)
    ∙ ap (λ b. cond (b && all_apply cs m) (Some cs) None) (eq-eqb n n refl)
    ∙ ap (λ b. cond b (Some cs) None) fit

pub batch_takes : (body : List ℕ) (n : ℕ) (m : Tables) (cs : List Change) → AreBytes body → batch_of body n m ≡ Some cs → (body ≡ body_bytes n cs) × AreWhole cs × (all_apply cs m ≡ true)
unfolding batch_of body_bytes
batch_takes body n m cs fits e =
    let one = bind_some (number_at w64 body) (λ number. changes_of number.1 >>= λ changes. cond (eqb number.0 n && all_apply changes m) (Some changes) None) cs e in
    let two = bind_some (changes_of one.0.1) (λ changes. cond (eqb one.0.0 n && all_apply changes m) (Some changes) None) cs one.2 in
    let t1 = number_takes w64 (2 ^ 64) wide64 body one.0.0 one.0.1 fits one.1 in
    let t2 = changes_take one.0.1 two.0 t1.0.rest_fits two.1 in
    ⊎_elim (λ yes. let both = and_true _ _ yes.0 in
    subst (λ (l : List Change). (body ≡ to_le_bytes w64 n ++ flat_map change_bytes l) × AreWhole l × (all_apply l m ≡ true)) (some_is two.0 cs yes.1)
    (t1.0.parts ∙ ap (λ (l : List ℕ). to_le_bytes w64 one.0.0 ++ l) t2.0 ∙ ap (λ (k : ℕ). to_le_bytes w64 k ++ flat_map change_bytes two.0) (eqb-true _ _ both.0), t2.1, both.1))
    (λ no. absurd (none_some cs no.1)) (chosen (eqb one.0.0 n && all_apply two.0 m) (Some two.0) None (Some cs) two.2)
