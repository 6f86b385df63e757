-- What stands behind an open gate, where only a front of it is known; and how far fronts go on.
use Rattle.std.proofs.Common.{◌≡◌, ℕ, ◌+◌, ◌-◌, ◌^◌, ◌<◌, ◌≤◌, cond, leb, ltb, List, ◌∷◌, ◌++◌, length, get_or, take, drop, Option, Some, None, refl, sym, ap, subst, ◌∙◌, append_assoc, arith, length-drop, length-append, inl, inr, false, true}
use Rattle.std.specs.Int.{w64, from_le_bytes}
use Rattle.std.proofs.lemmas.Bool.{ltb-false, le-ltb, lt-ltb, lt-leb, le-leb, cases_lt}
use Rattle.std.proofs.lemmas.List.{append-nil, length-take-le, take-append-le, drop-append-le, take_at, take_rest}
use Rattle.vec_base.specs.Representable.{AreBytes}
use Rattle.vec_base.specs.declared.shadow.Change.{Change}
use Rattle.shadow_records.specs.Batches.{applied}
use Rattle.shadow_records.specs.Keys.{Tables}
use Rattle.journal_format.specs.Fields.{◌>>=◌, number_at}
use Rattle.journal_format.specs.Format.{block}
use Rattle.journal_format.specs.Fronts.{Leads}
use Rattle.journal_format.specs.Reading.{batch_of, batch_at}
use Rattle.journal_format.proofs.FieldLaws.{AreBytes-drop, guard_some}
use Rattle.journal_format.proofs.GateLaws.{found_is, found_less, found_takes, leads_more, length_block, at_gate}
use Rattle.journal_tables.specs.Making.{MakesBatch, BlockIs, GoesOn}
use Rattle.journal_tables.specs.declared.blocks.Block.TheVariants as known

abbrev Found : Type 0
Found = List Change × (ℕ × List ℕ)

-- ---- numbers

pub number_long : (bytes : List ℕ) (x : ℕ × List ℕ) → number_at w64 bytes ≡ Some x → length bytes ≡ 8 + length x.1
number_long bytes x e =
    let g = guard_some (ltb (length bytes) 8) (from_le_bytes w64 (take 8 bytes), drop 8 bytes) x e in
    let long : 8 ≤ length bytes = ltb-false _ _ g.0 in
    subst (λ (p : ℕ × List ℕ). length bytes ≡ 8 + length p.1) g.1 (omega (arith, length-drop 8 bytes))

-- bytes behind the number change nothing
pub number_longer : (bytes more : List ℕ) (x : ℕ × List ℕ) → number_at w64 bytes ≡ Some x → number_at w64 (bytes ++ more) ≡ Some (x.0, x.1 ++ more)
number_longer bytes more x e =
    let g = guard_some (ltb (length bytes) 8) (from_le_bytes w64 (take 8 bytes), drop 8 bytes) x e in
    let long : 8 ≤ length bytes = ltb-false _ _ g.0 in
    let test : ltb (length (bytes ++ more)) 8 ≡ false = le-ltb _ _ (omega (arith, length-append bytes more)) in
    ap (λ b. cond b None (Some (from_le_bytes w64 (take 8 (bytes ++ more)), drop 8 (bytes ++ more)))) test
    ∙ ap (λ (l : List ℕ). Some (from_le_bytes w64 l, drop 8 (bytes ++ more))) (take-append-le 8 bytes more long)
    ∙ ap (λ (l : List ℕ). Some (from_le_bytes w64 (take 8 bytes), l)) (drop-append-le 8 bytes more long)
    ∙ ap (λ (p : ℕ × List ℕ). Some (p.0, p.1 ++ more)) g.1

some_not : {A : Type 0} (x : A) → Some x ≡ None → ⊥
some_not x e = cc

number_few : (bytes : List ℕ) → number_at w64 bytes ≡ None → length bytes < 8
number_few bytes e =
    elim (cases_lt (length bytes) 8) [
      | inl few ↦ few
      | inr long ↦ absurd (some_not _ (sym (ap (λ b. cond b None (Some (from_le_bytes w64 (take 8 bytes), drop 8 bytes))) (le-ltb _ _ long)) ∙ e))
    ]

few_number : (bytes : List ℕ) → length bytes < 8 → number_at w64 bytes ≡ None
few_number bytes few = ap (λ b. cond b None (Some (from_le_bytes w64 (take 8 bytes), drop 8 bytes))) (lt-ltb _ _ few)

-- ---- behind a gate

at_number : (bytes : List ℕ) (n : ℕ) (m : Tables) (x : Option (ℕ × List ℕ)) → number_at w64 bytes ≡ x
    → batch_at bytes n m ≡ (x >>= λ len. cond (leb (length len.1) len.0) None (batch_of (take len.0 len.1) n m >>= λ changes. Some (changes, (len.0, drop len.0 len.1))))
unfolding batch_at
at_number bytes n m x e = ap (λ r. r >>= λ (len : ℕ × List ℕ). cond (leb (length len.1) len.0) None (batch_of (take len.0 len.1) n m >>= λ changes. Some (changes, (len.0, drop len.0 len.1)))) e

past : (bytes : List ℕ) (n : ℕ) (m : Tables) (x : ℕ × List ℕ) → number_at w64 bytes ≡ Some x → length x.1 ≤ x.0 → batch_at bytes n m ≡ None
past bytes n m x e le = at_number bytes n m (Some x) e ∙ ap (λ b. cond b None (batch_of (take x.0 x.1) n m >>= λ changes. Some (changes, (x.0, drop x.0 x.1)))) (le-leb (length x.1) x.0 le)

inside : (bytes : List ℕ) (n : ℕ) (m : Tables) (x : ℕ × List ℕ) → number_at w64 bytes ≡ Some x → x.0 < length x.1 → batch_at bytes n m ≡ (batch_of (take x.0 x.1) n m >>= λ changes. Some (changes, (x.0, drop x.0 x.1)))
inside bytes n m x e lt = at_number bytes n m (Some x) e ∙ ap (λ b. cond b None (batch_of (take x.0 x.1) n m >>= λ changes. Some (changes, (x.0, drop x.0 x.1)))) (lt-leb (length x.1) x.0 lt)

-- the length is not whole
pub short_length : (bytes : List ℕ) (n : ℕ) (m : Tables) → number_at w64 bytes ≡ None → BlockIs bytes n m m (known.Short 8)
short_length bytes n m e = (number_few bytes e, refl, λ more few. at_number (bytes ++ more) n m None (few_number (bytes ++ more) few))

-- the body and the next gate are not whole
pub short_body : (bytes : List ℕ) (n : ℕ) (m : Tables) (x : ℕ × List ℕ) (needed : ℕ) → number_at w64 bytes ≡ Some x → length x.1 ≤ x.0 → length bytes < needed → needed ≤ x.0 + 9 → BlockIs bytes n m m (known.Short needed)
short_body bytes n m x needed e le lt most = (
  lt,
  refl,
  λ more few.
      let longer = number_longer bytes more x e in
      past (bytes ++ more) n m (x.0, x.1 ++ more) longer (omega (arith, number_long (bytes ++ more) (x.0, x.1 ++ more) longer)),
)

pub block_made : (bytes : List ℕ) (n : ℕ) (old new : Tables) (x : ℕ × List ℕ) → number_at w64 bytes ≡ Some x → x.0 < length x.1 → MakesBatch (batch_of (take x.0 x.1) n old) old true new → BlockIs bytes n old new (known.Made x.0)
block_made bytes n old new x e lt made =
    ((made.0, (x.0, drop x.0 x.1)), inside bytes n old x e lt ∙ ap (λ r. r >>= λ (changes : List Change). Some (changes, (x.0, drop x.0 x.1))) made.1, refl, made.2)

pub block_damaged : (bytes : List ℕ) (n : ℕ) (old new : Tables) (x : ℕ × List ℕ) → number_at w64 bytes ≡ Some x → x.0 < length x.1 → MakesBatch (batch_of (take x.0 x.1) n old) old false new → BlockIs bytes n old new known.Damaged
block_damaged bytes n old new x e lt none more =
    inside (bytes ++ more) n old (x.0, x.1 ++ more) (number_longer bytes more x e) (omega (arith, length-append x.1 more))
    ∙ ap (λ (l : List ℕ). batch_of l n old >>= λ changes. Some (changes, (x.0, drop x.0 (x.1 ++ more)))) (take-append-le x.0 x.1 more (omega arith))
    ∙ ap (λ r. r >>= λ (changes : List Change). Some (changes, (x.0, drop x.0 (x.1 ++ more)))) none

-- ---- fronts

pub nothing_yet : (bytes : List ℕ) (n : ℕ) (m : Tables) → GoesOn (take 0 bytes) n m n m
nothing_yet bytes n m front leads = let P : List ℕ → Type 0 = λ l. Leads l n m in subst P (sym (append-nil front)) leads

-- a batch more
pub one_more : (bytes : List ℕ) (at len n next : ℕ) (first old new : Tables) → AreBytes bytes → at < length bytes → next < 2 ^ 64 → get_or bytes at 0 ≡ 1 → GoesOn (take at bytes) n first next old
    → BlockIs (take (length bytes - (at + 1)) (drop (at + 1) bytes)) next old new (known.Made len)
    → (at + (9 + len) < length bytes) × GoesOn (take (at + (9 + len)) bytes) n first (next + 1) new
one_more bytes at len n next first old new fits lt small is_open so_far made =
    let rest = drop (at + 1) bytes in
    let x = made.0 in
    let e : batch_at rest next old ≡ Some x = ap (λ (l : List ℕ). batch_at l next old) (sym (take_rest bytes (at + 1))) ∙ made.1 in
    let is = found_is rest next old x e in
    let took = found_takes rest next old x (AreBytes-drop (at + 1) bytes fits) is in
    let block_long = length_block next x.0 in
    let whole : bytes ≡ (take at bytes ++ 1 ∷ block next x.0) ++ x.1.1 = at_gate bytes at 1 lt is_open ∙ ap (λ (l : List ℕ). take at bytes ++ 1 ∷ l) took.0 ∙ sym (append_assoc (take at bytes) (1 ∷ block next x.0) x.1.1) in
    let long : length (take at bytes ++ 1 ∷ block next x.0) ≡ at + (9 + len) = omega (arith, length-take-le at bytes (omega arith), length-append (take at bytes) (1 ∷ block next x.0), block_long, took.1, made.2) in
    let front_is : take (at + (9 + len)) bytes ≡ take at bytes ++ 1 ∷ block next x.0 = ap (λ (l : List ℕ). take (at + (9 + len)) l) whole ∙ take_at (take at bytes ++ 1 ∷ block next x.0) x.1.1 (at + (9 + len)) long in
    let some : 0 < length x.1.1 = (found_less rest next old x is).0 in (
      omega (arith, ap length whole, length-append (take at bytes ++ 1 ∷ block next x.0) x.1.1, long, some),
      λ front leads.
          let P : List ℕ → Type 0 = λ l. Leads l (next + 1) (applied x.0 old) in
          let Q : Tables → Type 0 = λ t. Leads (front ++ take (at + (9 + len)) bytes) (next + 1) t in
          let more = leads_more (front ++ take at bytes) next old x.0 (so_far front leads) small (omega (arith, took.1, took.2)) took.3 took.4 in
          subst Q (sym made.3) (subst P (append_assoc front (take at bytes) (1 ∷ block next x.0) ∙ ap (λ (l : List ℕ). front ++ l) (sym front_is)) more),
    )
