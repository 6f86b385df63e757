-- What a read puts behind the bytes that a buffer holds already.
use Rattle.std.proofs.Common.{◌≡◌, ◌≢◌, ◌+◌, ◌-◌, ◌<◌, ◌≤◌, ℕ, List, [], ◌∷◌, ◌++◌, length, take, drop, sym, ap, ◌∙◌, arith, length-append, length-drop}
use Rattle.std.proofs.lemmas.List.{take-append-le, length-take-le}
use Rattle.std.proofs.Math.Seq.{take-append-add}
use borrow.Rule.Slice.PartMut.{put_mid}

pub filled_by : (at k n : ℕ) (buffer room : List ℕ) → at ≤ length buffer → n ≤ length room
    → take (at + n) (put_mid at k buffer room) ≡ take at buffer ++ take n room
filled_by at k n buffer room within fits =
    ap (λ m. take (m + n) (put_mid at k buffer room)) (sym (length-take-le at buffer within))
    ∙ take-append-add (take at buffer) _ n
    ∙ ap (λ l. take at buffer ++ l) (take-append-le n room _ fits)

pub same_length : (at : ℕ) (buffer room : List ℕ) → at ≤ length buffer → at + length room ≡ length buffer
    → length (put_mid at (length buffer - at) buffer room) ≡ length buffer
same_length at buffer room within fits =
    let front = length-append (take at buffer) (room ++ drop (length buffer - at) (drop at buffer)) in
    let back = length-append room (drop (length buffer - at) (drop at buffer)) in
    omega (arith, front, back, length-take-le at buffer within, length-drop (length buffer - at) (drop at buffer), length-drop at buffer)

-- bytes that begin with a byte are some
pub some_bytes : (front left : List ℕ) → 0 < length front → front ++ left ≢ []
some_bytes [] left some none = absurd (omega arith)
some_bytes (b ∷ front) left some none = cc none
