-- A piece that a read put behind what was there.
use Rattle.std.proofs.Common.{◌≡◌, ◌++◌, ◌<◌, ◌≤◌, ◌+◌, ◌-◌, List, ℕ, length, take, drop, sym, ap, ◌∙◌, arith}
use Rattle.std.specs.Prelude.{⊤}
use Rattle.std.proofs.Math.Seq.{take-add}
use Rattle.std.proofs.lemmas.List.{length-take-le, take-append-le, take_at, drop_at}
use borrow.Rule.Slice.PartMut.{put_mid, post_of}
use Rattle.vec_base.specs.declared.source.ReadOutcome.{ReadOutcome}
use Rattle.vec_base.specs.declared.source.ReadOutcome.TheVariants as got
use Rattle.journal_disk.specs.Disk.{GotWell}

piece_put : (at n : ℕ) (old room reads : List ℕ) → at < length old → length room ≡ length old - at → n ≤ length room
    → take n room ≡ take n (drop at reads) → take at old ≡ take at reads → take (at + n) (put_mid at (length old - at) old room) ≡ take (at + n) reads
piece_put at n old room reads lt len le given before =
    let rest = room ++ post_of at (length old - at) old in
    let long : length (take at old) ≡ at = length-take-le at old (omega arith) in
    take-add at n (take at old ++ rest)
    ∙ ap (λ (l : List ℕ). l ++ take n (drop at (take at old ++ rest))) (take_at (take at old) rest at long)
    ∙ ap (λ (l : List ℕ). take at old ++ take n l) (drop_at (take at old) rest at long)
    ∙ ap (λ (l : List ℕ). take at old ++ l) (take-append-le n room (post_of at (length old - at) old) le ∙ given)
    ∙ ap (λ (l : List ℕ). l ++ take n (drop at reads)) before
    ∙ sym (take-add at n reads)

pub took_more : (at : ℕ) (Told End : Type 0) (old room reads : List ℕ) → at < length old → length room ≡ length old - at → (r : ReadOutcome)
    → GotWell (λ n. (0 < n) × (n ≤ length room) × (Told → take n room ≡ take n (drop at reads))) End ⊤ r
    → GotWell (λ n. (0 < n) × (at + n ≤ length old) × (Told → take at old ≡ take at reads → take (at + n) (put_mid at (length old - at) old room) ≡ take (at + n) reads)) End ⊤ r
took_more at Told End old room reads lt len (got.Took n) h =
    let le = h.1 in
    (h.0, omega arith, λ told before. piece_put at n old room reads lt len le (h.2 told) before)
took_more at Told End old room reads lt len got.End h = h
took_more at Told End old room reads lt len got.Failed h = h
