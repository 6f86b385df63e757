-- A field that is read is the field that was written, and what was written is read again.
use Rattle.std.proofs.Common.{◌≡◌, ℕ, ℤ, suc, ◌+◌, ◌^◌, ◌<◌, ◌≤◌, Bool, true, false, cond, ltb, List, [], ◌∷◌, ◌++◌, length, take, drop, Option, Some, None, refl, sym, ap, subst, ◌∙◌, append_assoc, arith, inl, inr}
use Rattle.std.specs.Prelude.{FitsSigned}
use Rattle.std.specs.Int.{Width, w32, w64, byte_len, from_le_bytes, to_le_bytes, cast_signed, cast_unsigned}
use Rattle.std.proofs.lemmas.Bool.{cases_lt, ltb-false, le-ltb}
use Rattle.std.proofs.lemmas.Int.{of_z-to_z, to_z-of_z}
use Rattle.std.proofs.lemmas.List.{take_at, drop_at, take-append-drop, length-append, length-take, get_or-drop, get_or-take, get_or_past}
use Rattle.std.proofs.Math.Facts.{sfits_to_z, Fits-of_z}
use Rattle.std.proofs.lemmas.Nat.{le_bytes_4, le_bytes_8, from_le_bytes-to_le_bytes_4, from_le_bytes-to_le_bytes_8}
use Rattle.vec_base.specs.Representable.{AreBytes}
use Rattle.vec_base.specs.declared.shadow.ShadowKey.{ShadowKey}
use Rattle.journal_format.specs.Format.{key_bytes, counted, IsKey}
use Rattle.journal_format.specs.Fields.{◌>>=◌, number_at, byte_at, bytes_at, key_at, counted_at}

pub AreBytes-drop : (n : ℕ) (bytes : List ℕ) → AreBytes bytes → AreBytes (drop n bytes)
AreBytes-drop n bytes h i = rw get_or-drop (h (n + i))

pub AreBytes-take : (n : ℕ) (bytes : List ℕ) → AreBytes bytes → AreBytes (take n bytes)
AreBytes-take n bytes h i =
    elim (cases_lt i n) [
      | inl lt ↦ rw (get_or-take n bytes i 0 lt) (h i)
      | inr le ↦ rw (get_or_past (take n bytes) i 0 (omega (arith, length-take n bytes))) (omega arith)
    ]

-- the value of a step that did not fail
pub bind_some : {A B : Type 0} (r : Option A) (f : A → Option B) (y : B) → (r >>= f) ≡ Some y → (x : A) × (r ≡ Some x) × (f x ≡ Some y)
bind_some (Some x) f y e = (x, refl, e)
bind_some None f y e = absurd cc

-- a test that did not fail
pub guard_some : {A : Type 0} (b : Bool) (x y : A) → cond b None (Some x) ≡ Some y → (b ≡ false) × (x ≡ y)
guard_some true x y e = absurd cc
guard_some false x y e = (refl, cc)

abbrev done : {A : Type 0} → A → Option A
done x = Some x

pub some_is : {A : Type 0} (x y : A) → done x ≡ done y → x ≡ y
some_is x y e = cc

-- what a reader took from the front
pub record Takes (bytes text rest : List ℕ) : Type 0 where
  pub parts : bytes ≡ text ++ rest
  pub rest_fits : AreBytes rest

pub Takes-then : (a x b y c : List ℕ) → Takes a x b → Takes b y c → Takes a (x ++ y) c
Takes-then a x b y c p q = record { parts = p.parts ∙ ap (λ (t : List ℕ). x ++ t) q.parts ∙ sym (append_assoc x y c); rest_fits = q.rest_fits }

-- ---- numbers

pub record IsWide (w : Width) (limit : ℕ) : Type 0 where
  pub len : (n : ℕ) → length (to_le_bytes w n) ≡ byte_len w
  pub back : (bytes : List ℕ) → length bytes ≡ byte_len w → AreBytes bytes → to_le_bytes w (from_le_bytes w bytes) ≡ bytes
  pub again : (n : ℕ) → n < limit → from_le_bytes w (to_le_bytes w n) ≡ n
  pub below : (bytes : List ℕ) → AreBytes bytes → from_le_bytes w bytes < limit

pub wide32 : IsWide w32 (2 ^ 32)
wide32 = record {
  len = λ n. refl;
  back = λ bytes len fits. le_bytes_4 bytes _ len fits refl;
  again = λ n lt. from_le_bytes-to_le_bytes_4 n lt;
  below = λ bytes fits. omega (arith, fits 0, fits 1, fits 2, fits 3);
}

pub wide64 : IsWide w64 (2 ^ 64)
wide64 = record {
  len = λ n. refl;
  back = λ bytes len fits. le_bytes_8 bytes _ len fits refl;
  again = λ n lt. from_le_bytes-to_le_bytes_8 n lt;
  below = λ bytes fits. omega (arith, fits 0, fits 1, fits 2, fits 3, fits 4, fits 5, fits 6, fits 7);
}

pub number_takes : (w : Width) (limit : ℕ) (wide : IsWide w limit) (bytes : List ℕ) (n : ℕ) (rest : List ℕ) → AreBytes bytes → number_at w bytes ≡ Some (n, rest) → Takes bytes (to_le_bytes w n) rest × (n < limit)
number_takes w limit wide bytes n rest fits e =
    let g = guard_some (ltb (length bytes) (byte_len w)) (from_le_bytes w (take (byte_len w) bytes), drop (byte_len w) bytes) (n, rest) e in
    let long : byte_len w ≤ length bytes = ltb-false _ _ g.0 in
    let n-is : from_le_bytes w (take (byte_len w) bytes) ≡ n = ap (λ (p : ℕ × List ℕ). p.0) g.1 in
    let rest-is : drop (byte_len w) bytes ≡ rest = ap (λ (p : ℕ × List ℕ). p.1) g.1 in
    let front : to_le_bytes w n ≡ take (byte_len w) bytes = rw (← n-is) (wide.back (take (byte_len w) bytes) (omega (arith, length-take (byte_len w) bytes)) (AreBytes-take (byte_len w) bytes fits)) in
    (record { parts = rw (front, ← rest-is) (sym (take-append-drop (byte_len w) bytes)); rest_fits = rw (← rest-is) (AreBytes-drop (byte_len w) bytes fits) }, rw (← n-is) (wide.below (take (byte_len w) bytes) (AreBytes-take (byte_len w) bytes fits)))

pub number_again : (w : Width) (limit : ℕ) (wide : IsWide w limit) (n : ℕ) (rest : List ℕ) → n < limit → number_at w (to_le_bytes w n ++ rest) ≡ Some (n, rest)
number_again w limit wide n rest lt =
    let len = wide.len n in
    let long : ltb (length (to_le_bytes w n ++ rest)) (byte_len w) ≡ false = le-ltb _ _ (omega (arith, length-append (to_le_bytes w n) rest)) in
    rw (long, take_at (to_le_bytes w n) rest (byte_len w) len, drop_at (to_le_bytes w n) rest (byte_len w) len, wide.again n lt) refl

-- ---- pieces

pub bytes_takes : (n : ℕ) (bytes text rest : List ℕ) → AreBytes bytes → bytes_at n bytes ≡ Some (text, rest) → Takes bytes text rest × (length text ≡ n)
bytes_takes n bytes text rest fits e =
    let g = guard_some (ltb (length bytes) n) (take n bytes, drop n bytes) (text, rest) e in
    let long : n ≤ length bytes = ltb-false _ _ g.0 in
    subst (λ (p : List ℕ × List ℕ). Takes bytes p.0 p.1 × (length p.0 ≡ n)) g.1
    (record { parts = sym (take-append-drop n bytes); rest_fits = AreBytes-drop n bytes fits }, omega (arith, length-take n bytes))

pub bytes_again : (text rest : List ℕ) → bytes_at (length text) (text ++ rest) ≡ Some (text, rest)
bytes_again text rest =
    let long : ltb (length (text ++ rest)) (length text) ≡ false = le-ltb _ _ (omega (arith, length-append text rest)) in
    rw (long, take_at text rest (length text) refl, drop_at text rest (length text) refl) refl

pub counted_takes : (bytes text rest : List ℕ) → AreBytes bytes → counted_at bytes ≡ Some (text, rest) → Takes bytes (counted text) rest × (length text < 2 ^ 32)
unfolding counted_at counted
counted_takes bytes text rest fits e =
    let b = bind_some (number_at w32 bytes) (λ n. bytes_at n.0 n.1) (text, rest) e in
    let t = number_takes w32 (2 ^ 32) wide32 bytes b.0.0 b.0.1 fits b.1 in
    let p = bytes_takes b.0.0 b.0.1 text rest t.0.rest_fits b.2 in
    let both = Takes-then bytes (to_le_bytes w32 b.0.0) b.0.1 text rest t.0 p.0 in
    (subst (λ (k : ℕ). Takes bytes (to_le_bytes w32 k ++ text) rest) (sym p.1) both, omega (arith, t.1, p.1))

pub counted_again : (text rest : List ℕ) → length text < 2 ^ 32 → counted_at (counted text ++ rest) ≡ Some (text, rest)
unfolding counted_at counted
counted_again text rest lt = rw (number_again w32 (2 ^ 32) wide32 (length text) (text ++ rest) lt) (bytes_again text rest)

-- ---- keys

abbrev signed : ℕ → ℤ
signed n = cast_signed w64 n

signed_takes : (bytes : List ℕ) (n : ℕ) (rest : List ℕ) → AreBytes bytes → number_at w64 bytes ≡ Some (n, rest) → Takes bytes (to_le_bytes w64 (cast_unsigned w64 (signed n))) rest × FitsSigned w64 (signed n)
signed_takes bytes n rest fits e =
    let t = number_takes w64 (2 ^ 64) wide64 bytes n rest fits e in
    (subst (λ (k : ℕ). Takes bytes (to_le_bytes w64 k) rest) (sym (of_z-to_z w64 n t.1)) t.0, sfits_to_z {w = w64} {n = n} (record { fits = t.1 }))

pub byte_takes : (bytes : List ℕ) (b : ℕ) (rest : List ℕ) → AreBytes bytes → byte_at bytes ≡ Some (b, rest) → Takes bytes (b ∷ []) rest × (b < 256)
byte_takes [] b rest fits e = absurd cc
byte_takes (x ∷ xs) b rest fits e =
    subst (λ (p : ℕ × List ℕ). Takes (x ∷ xs) (p.0 ∷ []) p.1 × (p.0 < 256)) (some_is (x, xs) (b, rest) e) (record { parts = refl; rest_fits = λ i. fits (suc i) }, fits 0)

pub key_takes : (bytes : List ℕ) (key : ShadowKey) (rest : List ℕ) → AreBytes bytes → key_at bytes ≡ Some (key, rest) → Takes bytes (key_bytes key) rest × IsKey key
unfolding key_at key_bytes
key_takes bytes key rest fits e =
    let a = bind_some (number_at w32 bytes) (λ table. byte_at table.1 >>= λ kind. number_at w64 kind.1 >>= λ a. number_at w64 a.1 >>= λ b. Some (record { table = table.0; kind = kind.0; a = cast_signed w64 a.0; b = cast_signed w64 b.0 }, b.1)) (key, rest) e in
    let b = bind_some (byte_at a.0.1) (λ kind. number_at w64 kind.1 >>= λ x. number_at w64 x.1 >>= λ y. Some (record { table = a.0.0; kind = kind.0; a = cast_signed w64 x.0; b = cast_signed w64 y.0 }, y.1)) (key, rest) a.2 in
    let c = bind_some (number_at w64 b.0.1) (λ x. number_at w64 x.1 >>= λ y. Some (record { table = a.0.0; kind = b.0.0; a = cast_signed w64 x.0; b = cast_signed w64 y.0 }, y.1)) (key, rest) b.2 in
    let d = bind_some (number_at w64 c.0.1) (λ y. Some (record { table = a.0.0; kind = b.0.0; a = cast_signed w64 c.0.0; b = cast_signed w64 y.0 }, y.1)) (key, rest) c.2 in
    let ta = number_takes w32 (2 ^ 32) wide32 bytes a.0.0 a.0.1 fits a.1 in
    let tb = byte_takes a.0.1 b.0.0 b.0.1 ta.0.rest_fits b.1 in
    let tc = signed_takes b.0.1 c.0.0 c.0.1 tb.0.rest_fits c.1 in
    let td = signed_takes c.0.1 d.0.0 d.0.1 tc.0.rest_fits d.1 in
    let cd = Takes-then b.0.1 (to_le_bytes w64 (cast_unsigned w64 (signed c.0.0))) c.0.1 (to_le_bytes w64 (cast_unsigned w64 (signed d.0.0))) d.0.1 tc.0 td.0 in
    let bd = Takes-then a.0.1 (b.0.0 ∷ []) b.0.1 _ d.0.1 tb.0 cd in
    let whole = Takes-then bytes (to_le_bytes w32 a.0.0) a.0.1 _ d.0.1 ta.0 bd in
    let made : ShadowKey × List ℕ = (record { table = a.0.0; kind = b.0.0; a = cast_signed w64 c.0.0; b = cast_signed w64 d.0.0 }, d.0.1) in
    subst (λ (p : ShadowKey × List ℕ). Takes bytes (key_bytes p.0) p.1 × IsKey p.0) (some_is made (key, rest) d.2) (whole, record { table = ta.1; kind = tb.1; a = tc.1; b = td.1 })

pub key_again : (key : ShadowKey) (rest : List ℕ) → IsKey key → key_at (key_bytes key ++ rest) ≡ Some (key, rest)
unfolding key_at key_bytes
key_again key rest is =
    let ua = cast_unsigned w64 key.a in
    let ub = cast_unsigned w64 key.b in
    let back_a : cast_signed w64 ua ≡ key.a = to_z-of_z w64 key.a is.a in
    let back_b : cast_signed w64 ub ≡ key.b = to_z-of_z w64 key.b is.b in
    let regrouped : key_bytes key ++ rest ≡ to_le_bytes w32 key.table ++ (key.kind ∷ (to_le_bytes w64 ua ++ (to_le_bytes w64 ub ++ rest))) = append_assoc (to_le_bytes w32 key.table) (key.kind ∷ (to_le_bytes w64 ua ++ to_le_bytes w64 ub)) rest ∙ ap (λ (l : List ℕ). to_le_bytes w32 key.table ++ (key.kind ∷ l)) (append_assoc (to_le_bytes w64 ua) (to_le_bytes w64 ub) rest) in
    ap key_at regrouped ∙ rw (number_again w32 (2 ^ 32) wide32 key.table (key.kind ∷ (to_le_bytes w64 ua ++ (to_le_bytes w64 ub ++ rest))) is.table, number_again w64 (2 ^ 64) wide64 ua (to_le_bytes w64 ub ++ rest) (let f = Fits-of_z {w = w64} {z = key.a} is.a in f.fits), number_again w64 (2 ^ 64) wide64 ub rest (let f = Fits-of_z {w = w64} {z = key.b} is.b in f.fits), back_a, back_b) refl
