-- What writes leave alone.
use Rattle.std.proofs.Common.{◌≡◌, ℕ, ◌+◌, ◌-◌, ◌≤◌, max, List, ◌++◌, length, take, drop, refl, sym, ◌∙◌, ap, arith, append_assoc, length-append, length-drop}
use Rattle.std.proofs.lemmas.List.{length-take-le, take_at, drop_at, take-take, drop-drop}
use Rattle.journal_disk.specs.Disk.{Torn}
use Rattle.journal_disk.specs.History.{put}

pub torn_same : (at n : ℕ) (c : List ℕ) → Torn at n c c
torn_same at n c = record { before = refl; after = refl; no_shorter = omega arith; no_longer = omega arith }

-- a range within another
pub torn_wider : (at n start m : ℕ) (d c : List ℕ) → start ≤ at → at + n ≤ start + m → Torn at n d c → Torn start m d c
torn_wider at n start m d c low high torn = record {
  before = sym (take-take start at c low) ∙ ap (λ (l : List ℕ). take start l) torn.before ∙ take-take start at d low;
  after = sym (back c) ∙ ap (λ (l : List ℕ). drop (start + m - (at + n)) l) torn.after ∙ back d;
  no_shorter = torn.no_shorter;
  no_longer = omega (arith, torn.no_longer);
}
  where
    back : (l : List ℕ) → drop (start + m - (at + n)) (drop (at + n) l) ≡ drop (start + m) l
    back l = drop-drop (start + m - (at + n)) (at + n) l ∙ (let same : at + n + (start + m - (at + n)) ≡ start + m = omega arith in ap (λ (k : ℕ). drop k l) same)

pub torn_both : (at n : ℕ) (d c b : List ℕ) → Torn at n d c → Torn at n c b → Torn at n d b
torn_both at n d c b one two = record {
  before = two.before ∙ one.before;
  after = two.after ∙ one.after;
  no_shorter = omega (arith, one.no_shorter, two.no_shorter);
  no_longer = omega (arith, one.no_longer, two.no_longer, one.no_shorter);
}

pub length-put : (old : List ℕ) (at : ℕ) (bytes : List ℕ) → at ≤ length old → length (put old at bytes) ≡ max (length old) (at + length bytes)
length-put old at bytes le =
    omega (arith, length-append (take at old ++ bytes) (drop (at + length bytes) old), length-append (take at old) bytes, length-take-le at old le, length-drop (at + length bytes) old)

pub put_torn : (old : List ℕ) (at : ℕ) (bytes : List ℕ) → at ≤ length old → Torn at (length bytes) old (put old at bytes)
put_torn old at bytes le = record {
  before = ap (λ (l : List ℕ). take at l) (append_assoc (take at old) bytes (drop (at + length bytes) old)) ∙ take_at (take at old) (bytes ++ drop (at + length bytes) old) at (length-take-le at old le);
  after = drop_at (take at old ++ bytes) (drop (at + length bytes) old) (at + length bytes) (omega (arith, length-append (take at old) bytes, length-take-le at old le));
  no_shorter = omega (arith, length-put old at bytes le);
  no_longer = omega (arith, length-put old at bytes le);
}
