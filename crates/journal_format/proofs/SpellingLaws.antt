-- What is read of a journal is spelled so.
use Rattle.std.proofs.Common.{◌≡◌, ◌≢◌, ℕ, zero, suc, ◌+◌, ◌^◌, ◌<◌, ◌≤◌, Bool, true, false, cond, eqb, List, [], ◌∷◌, ◌++◌, length, take, drop, Option, Some, None, Result, Ok, Err, refl, sym, ap, subst, ◌∙◌, append_assoc, arith, ⊎_elim, rules, length-drop, take-append-drop}
use Rattle.std.specs.Prelude.{◌&&◌, bytes_eq}
use Rattle.std.specs.FinMap.{empty}
use Rattle.std.specs.Int.{w64}
use Rattle.std.proofs.lemmas.Bool.{eqb-true, eqb-false, lt-leb}
use Rattle.std.proofs.lemmas.Slice.Eq.{bytes_eq-Decides}
use Rattle.vec_base.specs.declared.shadow.Change.{Change}
use Rattle.vec_base.specs.Representable.{AreBytes}
use Rattle.shadow_records.specs.Batches.{applied}
use Rattle.shadow_records.specs.Keys.{Tables}
use Rattle.journal_format.specs.Format.{header, block, blocks}
use Rattle.journal_format.specs.Fields.{◌>>=◌, number_at, changes_of}
use Rattle.journal_format.specs.Fitting.{all_apply}
use Rattle.journal_format.specs.Reading.{batch_of, batch_at, with_earlier, or_damaged, batches_in, batches_from, commits_of}
use Rattle.journal_format.specs.Fronts.{AreCommits}
use Rattle.journal_format.proofs.FieldLaws.{AreBytes-take, AreBytes-drop, bind_some, wide64, number_takes}
use Rattle.journal_format.proofs.ChangeLaws.{chosen, none_some}
use Rattle.journal_format.proofs.GateLaws.{IsFound, found_is, found_less, found_takes}

abbrev Batches : Type 0
Batches = List (List Change)

abbrev Found : Type 0
Found = List Change × (ℕ × List ℕ)

abbrev okay : Batches → Result Batches ℕ
okay bs = Ok bs

ok_same : (x y : Batches) → okay x ≡ okay y → x ≡ y
ok_same x y e = cc

batch_small : (body : List ℕ) (n : ℕ) (m : Tables) (cs : List Change) → AreBytes body → batch_of body n m ≡ Some cs → n < 2 ^ 64
unfolding batch_of
batch_small body n m cs fits e =
    let one = bind_some (number_at w64 body) (λ number. changes_of number.1 >>= λ changes. cond (eqb number.0 n && all_apply changes m) (Some changes) None) cs e in
    let two = bind_some (changes_of one.0.1) (λ changes. cond (eqb one.0.0 n && all_apply changes m) (Some changes) None) cs one.2 in
    let t1 = number_takes w64 (2 ^ 64) wide64 body one.0.0 one.0.1 fits one.1 in
    ⊎_elim (λ yes. let same : one.0.0 ≡ n = eqb-true _ _ (first_true (eqb one.0.0 n) (all_apply two.0 m) yes.0) in omega (arith, t1.1)) (λ no. absurd (none_some cs no.1)) (chosen (eqb one.0.0 n && all_apply two.0 m) (Some two.0) None (Some cs) two.2)
  where
    first_true : (a b : Bool) → (a && b) ≡ true → a ≡ true
    first_true true b h = refl
    first_true false b h = absurd cc

found_rest : (bytes : List ℕ) (n : ℕ) (m : Tables) (x : Found) → AreBytes bytes → IsFound bytes n m x → AreBytes x.1.1 × (n < 2 ^ 64)
found_rest bytes n m x fits is =
    let number = number_takes w64 (2 ^ 64) wide64 bytes is.len.0 is.len.1 fits is.number in
    let P : List ℕ → Type 0 = λ l. AreBytes l in
    (subst P (sym is.rest) (AreBytes-drop is.len.0 is.len.1 number.0.rest_fits), batch_small (take is.len.0 is.len.1) n m x.0 (AreBytes-take is.len.0 is.len.1 number.0.rest_fits) is.batch)

damaged_ok : (place : ℕ) (r : Option Found) (f : Found → Result Batches ℕ) (bs : Batches) → or_damaged place r f ≡ Ok bs → (x : Found) × (r ≡ Some x) × (f x ≡ Ok bs)
damaged_ok place None f bs e = absurd cc
damaged_ok place (Some x) f bs e = (x, refl, e)

first_ok : (b : List Change) (r : Result Batches ℕ) (bs : Batches) → with_earlier (b ∷ []) r ≡ Ok bs → (rest : Batches) × (r ≡ Ok rest) × (b ∷ rest ≡ bs)
first_ok b (Ok rest) bs e = (rest, refl, ok_same (b ∷ rest) bs e)
first_ok b (Err p) bs e = absurd cc

-- blocks of these batches, a closed gate, and anything behind it
pub record Spells (n : ℕ) (m : Tables) (bytes : List ℕ) (batches : Batches) : Type 0 where
  pub gate : ℕ
  pub rest : List ℕ
  pub shut : gate ≢ 1
  pub whole : bytes ≡ blocks n batches ++ gate ∷ rest
  pub are : AreCommits n m batches

spells_in : (fuel place : ℕ) (bytes : List ℕ) (n : ℕ) (m : Tables) (bs : Batches) → AreBytes bytes → 0 < length bytes → length bytes ≤ fuel → batches_in fuel place bytes n m ≡ Ok bs → Spells n m bytes bs
unfolding batches_in
spells_in fuel place [] n m bs fits some enough e = absurd (omega arith)
spells_in zero place (gate ∷ bytes) n m bs fits some enough e = absurd (omega arith)
spells_in (suc fuel) place (gate ∷ bytes) n m bs fits some enough e =
    ⊎_elim (λ yes.
    let is_open : gate ≡ 1 = eqb-true _ _ yes.0 in
    let found = damaged_ok place (batch_at bytes n m) (λ x. with_earlier (x.0 ∷ []) (batches_in fuel (place + 9 + x.1.0) x.1.1 (n + 1) (applied x.0 m))) bs yes.1 in
    let x = found.0 in
    let others = first_ok x.0 (batches_in fuel (place + 9 + x.1.0) x.1.1 (n + 1) (applied x.0 m)) bs found.2 in
    let fits1 : AreBytes bytes = λ i. fits (suc i) in
    let is = found_is bytes n m x found.1 in
    let less = found_less bytes n m x is in
    let took = found_takes bytes n m x fits1 is in
    let rest = found_rest bytes n m x fits1 is in
    let more = spells_in fuel (place + 9 + x.1.0) x.1.1 (n + 1) (applied x.0 m) others.0 rest.0 less.0 (omega (arith, less.1)) others.1 in
    let P : Batches → Type 0 = λ l. Spells n m (gate ∷ bytes) l in
    subst P others.2 (record {
      gate = more.gate;
      rest = more.rest;
      shut = more.shut;
      whole = ap (λ (k : ℕ). k ∷ bytes) is_open ∙ ap (λ (l : List ℕ). 1 ∷ l) (took.0 ∙ ap (λ (l : List ℕ). block n x.0 ++ l) more.whole ∙ sym (append_assoc (block n x.0) (blocks (n + 1) others.0) (more.gate ∷ more.rest)));
      are = (rest.1, omega (arith, took.1, took.2), took.3, took.4, more.are);
    }))
    (λ no.
    let P : Batches → Type 0 = λ l. Spells n m (gate ∷ bytes) l in
    subst P (ok_same [] bs no.1) (record { gate = gate; rest = bytes; shut = eqb-false gate 1 no.0; whole = refl; are = tt }))
    (chosen (eqb gate 1) (or_damaged place (batch_at bytes n m) (λ x. with_earlier (x.0 ∷ []) (batches_in fuel (place + 9 + x.1.0) x.1.1 (n + 1) (applied x.0 m)))) (Ok []) (Ok bs) e)

pub from_spells : (place : ℕ) (bytes : List ℕ) (n : ℕ) (m : Tables) (bs : Batches) → AreBytes bytes → 0 < length bytes → batches_from place bytes n m ≡ Ok bs → Spells n m bytes bs
from_spells place bytes n m bs fits some e = spells_in (length bytes) place bytes n m bs fits some (omega arith) e

header_eq : (xs : List ℕ) → bytes_eq xs header ≡ true → xs ≡ header
header_eq xs e = let h = bytes_eq-Decides xs header in search rules

pub commits_spell : (file : List ℕ) (bs : Batches) → AreBytes file → 17 < length file → commits_of file ≡ Ok bs → (take 16 file ≡ header) × Spells 1 empty (drop 16 file) bs
unfolding commits_of
commits_spell file bs fits long e =
    let inner : cond (bytes_eq (take 16 file) header) (batches_from 16 (drop 16 file) 1 empty) (Err 0) ≡ Ok bs =
    sym (ap (λ b. cond b (Ok []) (cond (bytes_eq (take 16 file) header) (batches_from 16 (drop 16 file) 1 empty) (Err 0))) (lt-leb (length file) 17 long)) ∙ e in
    ⊎_elim (λ yes. (header_eq (take 16 file) yes.0, from_spells 16 (drop 16 file) 1 empty bs (AreBytes-drop 16 file fits) (omega (arith, length-drop 16 file)) yes.1)) (λ no. absurd (not_okay bs no.1))
    (chosen (bytes_eq (take 16 file) header) (batches_from 16 (drop 16 file) 1 empty) (Err 0) (Ok bs) inner)
  where
    not_okay : (x : Batches) → Err 0 ≡ okay x → ⊥
    not_okay x h = cc

pub file_spells : (file : List ℕ) (bs : Batches) → AreBytes file → 17 < length file → commits_of file ≡ Ok bs → (gate : ℕ) × (rest : List ℕ) × (gate ≢ 1) × (file ≡ header ++ (blocks 1 bs ++ gate ∷ rest)) × AreCommits 1 empty bs
file_spells file bs fits long e =
    let made = commits_spell file bs fits long e in
    let s = made.1 in
    (s.gate, s.rest, s.shut, sym (take-append-drop 16 file) ∙ ap (λ (l : List ℕ). l ++ drop 16 file) made.0 ∙ ap (λ (l : List ℕ). header ++ l) s.whole, s.are)
