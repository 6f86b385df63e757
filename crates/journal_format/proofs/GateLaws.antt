-- Reading from gate to gate.
use Rattle.std.proofs.Common.{◌≡◌, ◌≢◌, ℕ, zero, suc, ◌+◌, ◌-◌, ◌^◌, ◌<◌, ◌≤◌, cond, eqb, leb, List, [], ◌∷◌, ◌++◌, length, get_or, take, drop, Option, Some, None, Result, Ok, Err, refl, sym, ap, subst, ◌∙◌, append_assoc, arith, ⊎_elim, length-drop, length-append, take-append-drop}
use Rattle.std.specs.FinMap.{empty}
use Rattle.std.specs.Int.{w64, to_le_bytes}
use Rattle.std.proofs.lemmas.Bool.{ne_eqb, leb-false, lt-leb}
use Rattle.std.proofs.lemmas.List.{append-nil, take_at, drop_at, drop_more, length-take-le}
use Rattle.vec_base.specs.declared.shadow.Change.{Change}
use Rattle.vec_base.specs.Representable.{AreBytes}
use Rattle.shadow_records.specs.Batches.{applied, AllApply}
use Rattle.shadow_records.specs.Keys.{Tables}
use Rattle.journal_format.specs.Format.{header, body_bytes, block, blocks, AreWhole}
use Rattle.journal_format.specs.Fields.{◌>>=◌, number_at}
use Rattle.journal_format.specs.Reading.{batch_of, batch_at, with_earlier, or_damaged, batches_in, batches_from, commits_of, replayed, replay, tables_of}
use Rattle.journal_format.specs.Fronts.{Leads, AreCommits}
use Rattle.journal_format.proofs.FieldLaws.{AreBytes-take, AreBytes-drop, bind_some, some_is, wide64, number_takes, number_again}
use Rattle.journal_format.proofs.ChangeLaws.{chosen, none_some, number_less, batch_again, batch_takes}
use Rattle.journal_format.proofs.FittingLaws.{test_applies, applies_test}

abbrev Found : Type 0
Found = List Change × (ℕ × List ℕ)

-- what a batch behind a gate is made of
pub record IsFound (bytes : List ℕ) (n : ℕ) (m : Tables) (x : Found) : Type 0 where
  pub len : ℕ × List ℕ
  pub number : number_at w64 bytes ≡ Some len
  pub within : len.0 < length len.1
  pub batch : batch_of (take len.0 len.1) n m ≡ Some x.0
  pub size : x.1.0 ≡ len.0
  pub rest : x.1.1 ≡ drop len.0 len.1

pub found_is : (bytes : List ℕ) (n : ℕ) (m : Tables) (x : Found) → batch_at bytes n m ≡ Some x → IsFound bytes n m x
unfolding batch_at
found_is bytes n m x e =
    let one = bind_some (number_at w64 bytes) (λ len. cond (leb (length len.1) len.0) None (batch_of (take len.0 len.1) n m >>= λ changes. Some (changes, (len.0, drop len.0 len.1)))) x e in
    ⊎_elim (λ past. absurd (none_some x past.1)) (λ within.
    let two = bind_some (batch_of (take one.0.0 one.0.1) n m) (λ changes. Some (changes, (one.0.0, drop one.0.0 one.0.1))) x within.1 in
    let made : Found = (two.0, (one.0.0, drop one.0.0 one.0.1)) in
    subst (λ (y : Found). IsFound bytes n m y) (some_is made x two.2)
    (record { len = one.0; number = one.1; within = leb-false _ _ within.0; batch = two.1; size = refl; rest = refl }))
    (chosen (leb (length one.0.1) one.0.0) None (batch_of (take one.0.0 one.0.1) n m >>= λ changes. Some (changes, (one.0.0, drop one.0.0 one.0.1))) (Some x) one.2)

pub found_less : (bytes : List ℕ) (n : ℕ) (m : Tables) (x : Found) → IsFound bytes n m x → (0 < length x.1.1) × (length x.1.1 ≤ length bytes)
found_less bytes n m x is =
    let less = number_less w64 bytes is.len is.number in
    let long : length x.1.1 ≡ length is.len.1 - is.len.0 = ap length is.rest ∙ length-drop is.len.0 is.len.1 in
    let within = is.within in
    (omega arith, omega arith)

-- ---- the first number only ends the recursion

same_found : (place : ℕ) (r s : Option Found) (f g : Found → Result (List (List Change)) ℕ) → r ≡ s → ((x : Found) → s ≡ Some x → f x ≡ g x) → or_damaged place r f ≡ or_damaged place s g
same_found place None None f g e h = refl
same_found place None (Some y) f g e h = absurd cc
same_found place (Some x) None f g e h = absurd cc
same_found place (Some x) (Some y) f g e h = ap f (some_is x y e) ∙ h y refl

pub enough_batches : (f g place : ℕ) (bytes : List ℕ) (n : ℕ) (m : Tables) → length bytes ≤ f → length bytes ≤ g → batches_in f place bytes n m ≡ batches_in g place bytes n m
unfolding batches_in
enough_batches zero zero place [] n m p q = refl
enough_batches zero (suc g) place [] n m p q = refl
enough_batches (suc f) zero place [] n m p q = refl
enough_batches (suc f) (suc g) place [] n m p q = refl
enough_batches zero g place (b ∷ bytes) n m p q = absurd (omega arith)
enough_batches (suc f) zero place (b ∷ bytes) n m p q = absurd (omega arith)
enough_batches (suc f) (suc g) place (b ∷ bytes) n m p q =
    ap (λ (r : Result (List (List Change)) ℕ). cond (eqb b 1) r (Ok [])) (same_found place (batch_at bytes n m) (batch_at bytes n m) _ _ refl (λ x e.
    let less = found_less bytes n m x (found_is bytes n m x e) in
    ap (with_earlier (x.0 ∷ [])) (enough_batches f g (place + 9 + x.1.0) x.1.1 (n + 1) (applied x.0 m) (omega (arith, less.1)) (omega (arith, less.1)))))

pub from_closed : (gate place : ℕ) (bytes : List ℕ) (n : ℕ) (m : Tables) → gate ≢ 1 → batches_from place (gate ∷ bytes) n m ≡ Ok []
unfolding batches_in
from_closed gate place bytes n m shut = ap (λ b. cond b (or_damaged place (batch_at bytes n m) (λ found. with_earlier (found.0 ∷ []) (batches_in (length bytes) (place + 9 + found.1.0) found.1.1 (n + 1) (applied found.0 m)))) (Ok [])) (ne_eqb gate 1 shut)

pub from_open : (place : ℕ) (bytes : List ℕ) (n : ℕ) (m : Tables)
    → batches_from place (1 ∷ bytes) n m ≡ or_damaged place (batch_at bytes n m) (λ found. with_earlier (found.0 ∷ []) (batches_from (place + 9 + found.1.0) found.1.1 (n + 1) (applied found.0 m)))
unfolding batches_in
from_open place bytes n m = same_found place (batch_at bytes n m) (batch_at bytes n m) _ _ refl (λ x e.
    let less = found_less bytes n m x (found_is bytes n m x e) in
    ap (with_earlier (x.0 ∷ [])) (enough_batches (length bytes) (length x.1.1) (place + 9 + x.1.0) x.1.1 (n + 1) (applied x.0 m) less.1 (omega arith)))

-- ---- what is spelled so is read, and what is read is spelled so

batch_at_tail : (n : ℕ) (cs : List Change) (m : Tables) (tail : List ℕ) → 0 < length tail → n < 2 ^ 64 → length (body_bytes n cs) < 2 ^ 64 → AreWhole cs → AllApply cs m
    → batch_at (block n cs ++ tail) n m ≡ Some (cs, (length (body_bytes n cs), tail))
unfolding batch_at block
batch_at_tail n cs m tail some small short whole fit =
    let body = body_bytes n cs in
    ap (λ (l : List ℕ). number_at w64 l >>= λ len. cond (leb (length len.1) len.0) None (batch_of (take len.0 len.1) n m >>= λ changes. Some (changes, (len.0, drop len.0 len.1)))) (append_assoc (to_le_bytes w64 (length body)) body tail)
    ∙ ap (λ r. r >>= λ (len : ℕ × List ℕ). cond (leb (length len.1) len.0) None (batch_of (take len.0 len.1) n m >>= λ changes. Some (changes, (len.0, drop len.0 len.1)))) (number_again w64 (2 ^ 64) wide64 (length body) (body ++ tail) short)
    ∙ ap (λ b. cond b None (batch_of (take (length body) (body ++ tail)) n m >>= λ changes. Some (changes, (length body, drop (length body) (body ++ tail))))) (lt-leb (length (body ++ tail)) (length body) (omega (arith, length-append body tail)))
    ∙ ap (λ (l : List ℕ). batch_of l n m >>= λ changes. Some (changes, (length body, drop (length body) (body ++ tail)))) (take_at body tail (length body) refl)
    ∙ ap (λ r. r >>= λ (changes : List Change). Some (changes, (length body, drop (length body) (body ++ tail)))) (batch_again n cs m small whole (applies_test cs m fit))
    ∙ ap (λ (l : List ℕ). Some (cs, (length body, l))) (drop_at body tail (length body) refl)

pub batch_at_again : (n : ℕ) (cs : List Change) (m : Tables) (gate : ℕ) (rest : List ℕ) → n < 2 ^ 64 → length (body_bytes n cs) < 2 ^ 64 → AreWhole cs → AllApply cs m
    → batch_at (block n cs ++ gate ∷ rest) n m ≡ Some (cs, (length (body_bytes n cs), gate ∷ rest))
batch_at_again n cs m gate rest small short whole fit = batch_at_tail n cs m (gate ∷ rest) (omega arith) small short whole fit

-- ---- fronts

earlier_both : (a b : List (List Change)) (r : Result (List (List Change)) ℕ) → with_earlier a (with_earlier b r) ≡ with_earlier (a ++ b) r
earlier_both a b (Ok c) = ap (λ (l : List (List Change)). Ok l) (sym (append_assoc a b c))
earlier_both a b (Err p) = refl

earlier_none : (r : Result (List (List Change)) ℕ) → with_earlier [] r ≡ r
earlier_none (Ok c) = refl
earlier_none (Err p) = refl

replayed-push : (bs : List (List Change)) (b : List Change) (m : Tables) → replayed (bs ++ b ∷ []) m ≡ applied b (replayed bs m)
replayed-push [] b m = refl
replayed-push (x ∷ bs) b m = replayed-push bs b (applied x m)

pub length_block : (n : ℕ) (cs : List Change) → length (block n cs) ≡ 8 + length (body_bytes n cs)
unfolding block
length_block n cs = length-append (to_le_bytes w64 (length (body_bytes n cs))) (body_bytes n cs)

pub leads_header : Leads header 1 empty
unfolding commits_of header
leads_header = record {
  batches = [];
  made = refl;
  count = omega arith;
  begun = omega arith;
  shut = λ gate ne. refl;
  goes_on = λ gate rest more. ap (λ b. cond b (Ok []) (batches_from 16 (gate ∷ rest) 1 empty)) (lt-leb (length (header ++ gate ∷ rest)) 17 (omega arith)) ∙ sym (earlier_none (batches_from 16 (gate ∷ rest) 1 empty));
}

pub leads_more : (front : List ℕ) (n : ℕ) (m : Tables) (cs : List Change) → Leads front n m → n < 2 ^ 64 → length (body_bytes n cs) < 2 ^ 64 → AreWhole cs → AllApply cs m
    → Leads (front ++ 1 ∷ block n cs) (n + 1) (applied cs m)
leads_more front n m cs leads small short whole fit = record {
  batches = leads.batches ++ cs ∷ [];
  made = ap (applied cs) leads.made ∙ sym (replayed-push leads.batches cs empty);
  count = omega (arith, leads.count, length-append front (1 ∷ block n cs));
  begun = omega (arith, leads.begun, length-append front (1 ∷ block n cs));
  shut = λ gate ne. on gate [] ∙ ap (with_earlier (leads.batches ++ cs ∷ [])) (from_closed gate place [] (n + 1) (applied cs m) ne) ∙ ap (λ (l : List (List Change)). Ok l) (append-nil (leads.batches ++ cs ∷ []));
  goes_on = λ gate rest more. on gate rest;
}
  where
    place : ℕ
    place = length (front ++ 1 ∷ block n cs)

    on : (gate : ℕ) (rest : List ℕ) → commits_of ((front ++ 1 ∷ block n cs) ++ gate ∷ rest) ≡ with_earlier (leads.batches ++ cs ∷ []) (batches_from (length (front ++ 1 ∷ block n cs)) (gate ∷ rest) (n + 1) (applied cs m))
    on gate rest =
        let there : length front + 9 + length (body_bytes n cs) ≡ length (front ++ 1 ∷ block n cs) = omega (arith, length-append front (1 ∷ block n cs), length_block n cs) in
        ap commits_of (append_assoc front (1 ∷ block n cs) (gate ∷ rest))
        ∙ leads.goes_on 1 (block n cs ++ gate ∷ rest) (omega (arith, leads.begun, length-append (block n cs) (gate ∷ rest)))
        ∙ ap (with_earlier leads.batches) (from_open (length front) (block n cs ++ gate ∷ rest) n m
        ∙ ap (λ (r : Option Found). or_damaged (length front) r (λ found. with_earlier (found.0 ∷ []) (batches_from (length front + 9 + found.1.0) found.1.1 (n + 1) (applied found.0 m)))) (batch_at_again n cs m gate rest small short whole fit)
        ∙ ap (λ (k : ℕ). with_earlier (cs ∷ []) (batches_from k (gate ∷ rest) (n + 1) (applied cs m))) there)
        ∙ earlier_both leads.batches (cs ∷ []) (batches_from (length (front ++ 1 ∷ block n cs)) (gate ∷ rest) (n + 1) (applied cs m))

-- behind a closed gate nothing counts
pub commits_shut : (front : List ℕ) (n : ℕ) (m : Tables) (leads : Leads front n m) (gate : ℕ) (rest : List ℕ) → gate ≢ 1 → commits_of (front ++ gate ∷ rest) ≡ Ok leads.batches
commits_shut front n m leads gate [] ne = leads.shut gate ne
commits_shut front n m leads gate (b ∷ rest) ne =
    leads.goes_on gate (b ∷ rest) (omega (arith, leads.begun)) ∙ ap (with_earlier leads.batches) (from_closed gate (length front) (b ∷ rest) n m ne) ∙ ap (λ (l : List (List Change)). Ok l) (append-nil leads.batches)

pub tables_shut : (front : List ℕ) (n : ℕ) (m : Tables) (leads : Leads front n m) (gate : ℕ) (rest : List ℕ) → gate ≢ 1 → tables_of (front ++ gate ∷ rest) ≡ Ok m
tables_shut front n m leads gate rest ne = ap replay (commits_shut front n m leads gate rest ne) ∙ ap (λ (t : Tables). Ok t) (sym leads.made)

-- ---- blocks

some_blocks : (n : ℕ) (batches : List (List Change)) (gate : ℕ) (rest : List ℕ) → 0 < length (blocks n batches ++ gate ∷ rest)
some_blocks n [] gate rest = omega arith
some_blocks n (b ∷ batches) gate rest = omega arith

from_blocks : (place n : ℕ) (m : Tables) (batches : List (List Change)) (gate : ℕ) (rest : List ℕ) → AreCommits n m batches → gate ≢ 1 → batches_from place (blocks n batches ++ gate ∷ rest) n m ≡ Ok batches
from_blocks place n m [] gate rest are shut = from_closed gate place rest n m shut
from_blocks place n m (b ∷ batches) gate rest are shut =
    let tail = blocks (n + 1) batches ++ gate ∷ rest in
    ap (λ (l : List ℕ). batches_from place (1 ∷ l) n m) (append_assoc (block n b) (blocks (n + 1) batches) (gate ∷ rest))
    ∙ from_open place (block n b ++ tail) n m
    ∙ ap (λ r. or_damaged place r (λ found. with_earlier (found.0 ∷ []) (batches_from (place + 9 + found.1.0) found.1.1 (n + 1) (applied found.0 m)))) (batch_at_tail n b m tail (some_blocks (n + 1) batches gate rest) are.0 are.1 are.2 are.3)
    ∙ ap (with_earlier (b ∷ [])) (from_blocks (place + 9 + length (body_bytes n b)) (n + 1) (applied b m) batches gate rest are.4 shut)

commits_long : (bytes : List ℕ) → 1 < length bytes → commits_of (header ++ bytes) ≡ batches_from 16 bytes 1 empty
unfolding commits_of header
commits_long bytes long = ap (λ b. cond b (Ok []) (batches_from 16 bytes 1 empty)) (lt-leb (length (header ++ bytes)) 17 (omega arith))

commits_bare : (gate : ℕ) → commits_of (header ++ gate ∷ []) ≡ Ok []
unfolding commits_of header
commits_bare gate = refl

long_blocks : (n : ℕ) (b : List Change) (batches : List (List Change)) (gate : ℕ) (rest : List ℕ) → 1 < length (blocks n (b ∷ batches) ++ gate ∷ rest)
long_blocks n b batches gate rest = omega (arith, length-append (blocks n (b ∷ batches)) (gate ∷ rest))

-- The header, blocks of batches and a closed gate give these batches, whatever stands behind the gate.
pub commits_blocks : (batches : List (List Change)) (gate : ℕ) (rest : List ℕ) → AreCommits 1 empty batches → gate ≢ 1 → commits_of (header ++ (blocks 1 batches ++ gate ∷ rest)) ≡ Ok batches
commits_blocks [] gate [] are shut = commits_bare gate
commits_blocks [] gate (b ∷ rest) are shut = commits_long (gate ∷ b ∷ rest) (omega arith) ∙ from_closed gate 16 (b ∷ rest) 1 empty shut
commits_blocks (b ∷ batches) gate rest are shut = commits_long (blocks 1 (b ∷ batches) ++ gate ∷ rest) (long_blocks 1 b batches gate rest) ∙ from_blocks 16 1 empty (b ∷ batches) gate rest are shut

-- ---- what is read of a file

pub found_takes : (bytes : List ℕ) (n : ℕ) (m : Tables) (x : Found) → AreBytes bytes → IsFound bytes n m x
    → (bytes ≡ block n x.0 ++ x.1.1) × (length (body_bytes n x.0) ≡ x.1.0) × (x.1.0 < 2 ^ 64) × AreWhole x.0 × AllApply x.0 m
unfolding block
found_takes bytes n m x fits is =
    let len = is.len in
    let number = number_takes w64 (2 ^ 64) wide64 bytes len.0 len.1 fits is.number in
    let body = take len.0 len.1 in
    let batch = batch_takes body n m x.0 (AreBytes-take len.0 len.1 number.0.rest_fits) is.batch in
    let within = is.within in
    let long : length body ≡ len.0 = length-take-le len.0 len.1 (omega arith) in
    let size : length (body_bytes n x.0) ≡ len.0 = ap length (sym batch.0) ∙ long in
    let parts : bytes ≡ (to_le_bytes w64 len.0 ++ body) ++ drop len.0 len.1 = number.0.parts ∙ ap (λ (l : List ℕ). to_le_bytes w64 len.0 ++ l) (sym (take-append-drop len.0 len.1)) ∙ sym (append_assoc (to_le_bytes w64 len.0) body (drop len.0 len.1)) in (
      parts ∙ ap (λ (k : ℕ). (to_le_bytes w64 k ++ body) ++ drop len.0 len.1) (sym size) ∙ ap (λ (l : List ℕ). (to_le_bytes w64 (length (body_bytes n x.0)) ++ l) ++ drop len.0 len.1) batch.0
          ∙ ap (λ (l : List ℕ). (to_le_bytes w64 (length (body_bytes n x.0)) ++ body_bytes n x.0) ++ l) (sym is.rest),
      size ∙ sym is.size,
      omega (arith, number.1, is.size),
      batch.1,
      test_applies x.0 m batch.2,
    )

pub at_gate : (file : List ℕ) (gate value : ℕ) → gate < length file → get_or file gate 0 ≡ value → file ≡ take gate file ++ value ∷ drop (gate + 1) file
at_gate file gate value lt is = sym (take-append-drop gate file) ∙ ap (λ (l : List ℕ). take gate file ++ l) (drop_more file gate 0 lt ∙ ap (λ (k : ℕ). k ∷ drop (gate + 1) file) is)

-- the list ends at a closed gate
pub read_shut : (file : List ℕ) (gate n : ℕ) (m : Tables) → Leads (take gate file) n m → gate < length file → get_or file gate 0 ≢ 1 → tables_of file ≡ Ok m
read_shut file gate n m leads lt shut = ap tables_of (at_gate file gate (get_or file gate 0) lt refl) ∙ tables_shut (take gate file) n m leads (get_or file gate 0) (drop (gate + 1) file) shut

-- no batch behind an open gate
pub read_damaged : (file : List ℕ) (gate n : ℕ) (m : Tables) → Leads (take gate file) n m → gate < length file → 17 < length file → get_or file gate 0 ≡ 1 → batch_at (drop (gate + 1) file) n m ≡ None → commits_of file ≡ Err gate
read_damaged file gate n m leads lt long is_open none =
    let front = take gate file in
    let rest = drop (gate + 1) file in
    let size : length front ≡ gate = length-take-le gate file (omega arith) in
    ap commits_of (at_gate file gate 1 lt is_open)
    ∙ leads.goes_on 1 rest (omega (arith, size, length-drop (gate + 1) file))
    ∙ ap (with_earlier leads.batches) (from_open (length front) rest n m ∙ ap (λ r. or_damaged (length front) r (λ found. with_earlier (found.0 ∷ []) (batches_from (length front + 9 + found.1.0) found.1.1 (n + 1) (applied found.0 m)))) none)
    ∙ ap (λ (k : ℕ). Err k) size

-- a batch behind an open gate
pub read_open : (file : List ℕ) (gate n : ℕ) (m : Tables) (x : Found) → AreBytes file → Leads (take gate file) n m → gate < length file → n < 2 ^ 64 → get_or file gate 0 ≡ 1 → batch_at (drop (gate + 1) file) n m ≡ Some x
    → Leads (take (gate + 9 + x.1.0) file) (n + 1) (applied x.0 m) × (gate + 9 + x.1.0 < length file)
read_open file gate n m x fits leads lt small is_open e =
    let front = take gate file in
    let rest = drop (gate + 1) file in
    let found = found_is rest n m x e in
    let took = found_takes rest n m x (AreBytes-drop (gate + 1) file fits) found in
    let size : length front ≡ gate = length-take-le gate file (omega arith) in
    let whole : file ≡ (front ++ 1 ∷ block n x.0) ++ x.1.1 = at_gate file gate 1 lt is_open ∙ ap (λ (l : List ℕ). front ++ 1 ∷ l) took.0 ∙ sym (append_assoc front (1 ∷ block n x.0) x.1.1) in
    let long : length (front ++ 1 ∷ block n x.0) ≡ gate + 9 + x.1.0 = omega (arith, size, length-append front (1 ∷ block n x.0), length_block n x.0, took.1) in
    let first : take (gate + 9 + x.1.0) file ≡ front ++ 1 ∷ block n x.0 = ap (λ (l : List ℕ). take (gate + 9 + x.1.0) l) whole ∙ take_at (front ++ 1 ∷ block n x.0) x.1.1 (gate + 9 + x.1.0) long in
    let P : List ℕ → Type 0 = λ l. Leads l (n + 1) (applied x.0 m) in
    let less = found_less rest n m x found in
    (subst P (sym first) (leads_more front n m x.0 leads small (omega (arith, took.1, took.2)) took.3 took.4), omega (arith, ap length whole, length-append (front ++ 1 ∷ block n x.0) x.1.1, long, less.0))
