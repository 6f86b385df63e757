-- Writes in pieces, and how time goes on.
use Rattle.std.proofs.Common.{◌≡◌, inl, inr, ⊎_elim, ℕ, ◌+◌, ◌≤◌, List, [], ◌++◌, length, take, drop, sym, ◌∙◌, ap, arith, append_assoc, length-append, length-drop, take-append-drop}
use Rattle.std.proofs.lemmas.List.{append-nil, length-take-le, take_at, drop_at, drop-drop}
use Rattle.std.proofs.Math.Seq.{take-add}
use Rattle.journal_disk.specs.Disk.{Torn, Follows, Elapses}
use Rattle.journal_disk.specs.History.{put}
use Rattle.journal_disk.proofs.Torn.{torn_same, torn_wider, torn_both}
use Rattle.journal_writes.specs.Moments.{LeavesOnly}

pub put_none : (old : List ℕ) (at : ℕ) → put old at [] ≡ old
put_none old at = ap (λ (l : List ℕ). l ++ drop (at + 0) old) (append-nil (take at old)) ∙ (let none : at + 0 ≡ at = omega arith in ap (λ (k : ℕ). take at old ++ drop k old) none) ∙ take-append-drop at old

-- a piece more
pub put_more : (old bytes : List ℕ) (at k n : ℕ) → at ≤ length old → k + n ≤ length bytes → put (put old at (take k bytes)) (at + k) (take n (drop k bytes)) ≡ put old at (take (k + n) bytes)
put_more old bytes at k n le fits =
    let P = take k bytes in
    let Y = take n (drop k bytes) in
    let long : length P ≡ k = length-take-le k bytes (omega arith) in
    let short : length Y ≡ n = length-take-le n (drop k bytes) (omega (arith, length-drop k bytes)) in
    let head_long : length (take at old ++ P) ≡ at + k = omega (arith, length-append (take at old) P, length-take-le at old le) in
    let back_is : drop (at + length P) old ≡ drop (at + k) old = ap (λ (m : ℕ). drop (at + m) old) long in
    let head : take (at + k) (put old at P) ≡ take at old ++ P = take_at (take at old ++ P) (drop (at + length P) old) (at + k) head_long in
    let tail : drop (at + k) (put old at P) ≡ drop (at + k) old = drop_at (take at old ++ P) (drop (at + length P) old) (at + k) head_long ∙ back_is in
    let rest : drop (at + k + length Y) (put old at P) ≡ drop (at + length (take (k + n) bytes)) old =
    sym (drop-drop (length Y) (at + k) (put old at P)) ∙ ap (λ (l : List ℕ). drop (length Y) l) tail ∙ drop-drop (length Y) (at + k) old
    ∙ ap (λ (m : ℕ). drop m old) (let whole : length (take (k + n) bytes) ≡ k + n = length-take-le (k + n) bytes fits in omega arith) in
    let both : P ++ Y ≡ take (k + n) bytes = sym (take-add k n bytes) in
    ap (λ (l : List ℕ). l ++ Y ++ drop (at + k + length Y) (put old at P)) head
    ∙ ap (λ (l : List ℕ). take at old ++ P ++ Y ++ l) rest
    ∙ ap (λ (l : List ℕ). l ++ drop (at + length (take (k + n) bytes)) old) (append_assoc (take at old) P Y)
    ∙ ap (λ (l : List ℕ). take at old ++ l ++ drop (at + length (take (k + n) bytes)) old) both

pub follows_same : (at n : ℕ) (images : List ℕ → Type 0) → Follows (Torn at n) images images
follows_same at n images c now = (c, now, torn_same at n c)

pub follows_wider : (at k n : ℕ) (first new : List ℕ → Type 0) → k ≤ n → Follows (Torn at k) first new → Follows (Torn at n) first new
follows_wider at k n first new le follows c now = let from = follows c now in (from.0, from.1, torn_wider at k at n from.0 c (omega arith) (omega arith) from.2)

pub follows_more : (at n k m : ℕ) (first mid new : List ℕ → Type 0) → k + m ≤ n → Follows (Torn at n) first mid → Follows (Torn (at + k) m) mid new → Follows (Torn at n) first new
follows_more at n k m first mid new fits so_far next c now =
    let one = next c now in
    let two = so_far one.0 one.1 in
    (two.0, two.1, torn_both at n two.0 one.0 c two.2 (torn_wider (at + k) m at n one.0 c (omega arith) (omega arith) one.2))

module _ {D : Type 0} (moment : D → ℕ) (left_since : D → ℕ → List ℕ → Type 0) where
  pub started : (old : D) (P : List ℕ → Type 0) → LeavesOnly moment left_since old old P
  started old P = record { later = omega arith; before = λ t c le left. inl left }

  -- one call more, after which a stop leaves what has P
  pub goes_on : (old mid new : D) (P may_leave : List ℕ → Type 0) → LeavesOnly moment left_since old mid P → Elapses (moment mid) (moment new) (left_since mid) (left_since new) may_leave
      → ((c : List ℕ) → may_leave c → P c) → LeavesOnly moment left_since old new P
  goes_on old mid new P may_leave so_far time here = record {
    later = omega (arith, so_far.later, time.later);
    before = λ t c le left. ⊎_elim (so_far.before t c le) (λ now. inr (here c now)) (time.nothing_else t c (omega (arith, le, so_far.later)) left);
  }

  -- a run more
  pub joined : (old mid new : D) (P Q : List ℕ → Type 0) → LeavesOnly moment left_since old mid P → LeavesOnly moment left_since mid new Q
      → ((c : List ℕ) → Q c → P c) → LeavesOnly moment left_since old new P
  joined old mid new P Q so_far next here = record {
    later = omega (arith, so_far.later, next.later);
    before = λ t c le left. ⊎_elim (so_far.before t c le) (λ now. inr (here c now)) (next.before t c (omega (arith, le, so_far.later)) left);
  }

module _ {D : Type 0} (moment : D → ℕ) (left_since : D → ℕ → List ℕ → Type 0) where
  pub weaker : (old new : D) (P Q : List ℕ → Type 0) → LeavesOnly moment left_since old new P → ((c : List ℕ) → P c → Q c) → LeavesOnly moment left_since old new Q
  weaker old new P Q so_far here = record { later = so_far.later; before = λ t c le left. ⊎_elim (λ b. inl b) (λ now. inr (here c now)) (so_far.before t c le left) }
