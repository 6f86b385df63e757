-- The bytes behind a head: what was read of them and what is left.
use Rattle.std.proofs.Common.{◌≡◌, ◌≤◌, ◌<◌, ◌-◌, ℕ, List, [], ◌++◌, length, take, drop, slice_range, None, Some, Ok, Err, Result, refl, sym, ap, ◌∙◌, inl, inr, arith, length-append, length-take}
use Rattle.std.proofs.lemmas.Bool.{cases_lt}
use Rattle.std.proofs.lemmas.List.{take-append-le, take_all, drop-take}
use Rattle.std.specs.declared.option.Option.{Option}
use Rattle.vec_base.specs.Streams.{Loses, NoneLeft, Rose}
use Rattle.http_exchanges.specs.declared.body.Unread.{Unread}
use Rattle.http_exchanges.specs.declared.body.Unread.TheVariants as unread
use Rattle.http_exchanges.specs.inner.Behind.{joined, AreFewer, BodyOf, IfBodyTold, FailedBy}

-- nothing was read yet
pub joined_begun : (left : Option (List ℕ)) (read : List ℕ) → Loses (joined read left) read left
joined_begun None read = tt
joined_begun (Some bytes) read = refl

-- more was read
pub joined_more : (all left new : Option (List ℕ)) (one two : List ℕ) → Loses all one left → Loses (joined one left) two new → Loses all two new
joined_more None None new one two first second = second
joined_more None (Some left) new one two first second = absurd first
joined_more (Some all) None new one two first second = absurd first
joined_more (Some all) (Some left) None one two first second = absurd second
joined_more (Some all) (Some left) (Some new) one two first second = first ∙ second

-- the connection ended
pub fewer_at_end : (all left : Option (List ℕ)) (read : List ℕ) (size : ℕ) → Loses all read left → NoneLeft left → length read < size
    → AreFewer all size
fewer_at_end None left read size loses none few = tt
fewer_at_end (Some all) None read size loses none few = absurd loses
fewer_at_end (Some all) (Some left) read size loses none few =
    omega (arith, ap length loses, ap length none, length-append read left, few)

-- a fault after some calls is one over all calls
pub failed_later : (A B : Type 0) (before now new : ℕ) (why : Unread) → before ≤ now → FailedBy {A = A} now (Err why) new → FailedBy {A = B} before (Err why) new
failed_later A B before now new unread.Short later failed = tt
failed_later A B before now new unread.Lost later failed = omega (arith, later, failed)
failed_later A B before now new unread.Memory later failed = tt

-- the first so many bytes of those that begin with the first so many
take_taken : (size : ℕ) (behind left : List ℕ) → take size (take size behind ++ left) ≡ take size (behind ++ left)
take_taken size behind left =
    elim (cases_lt size (length behind)) [
      | inl less ↦
          take-append-le size (take size behind) left (omega (arith, length-take size behind, less))
          ∙ take_all size (take size behind) (omega (arith, length-take size behind))
          ∙ sym (take-append-le size behind left (omega (arith, less)))
      | inr more ↦ ap (λ (l : List ℕ). take size (l ++ left)) (take_all size behind more)
    ]

length_taken : (size : ℕ) (behind left : List ℕ) → size ≤ length (take size behind ++ left) → size ≤ length (behind ++ left)
length_taken size behind left fits =
    omega (arith, fits, length-append (take size behind) left, length-append behind left, length-take size behind)

-- a body that was read whole
pub body_whole : (left new : Option (List ℕ)) (behind body : List ℕ) (size : ℕ) → Loses (joined (take size behind) left) body new → length body ≡ size
    → IfBodyTold (joined behind left) size (Ok body)
body_whole None new behind body size read whole = tt
body_whole (Some left) None behind body size read whole = absurd read
body_whole (Some left) (Some new) behind body size read whole =
    let fits : size ≤ length (take size behind ++ left) = omega (arith, ap length read, length-append body new, whole) in (
      length_taken size behind left fits,
      sym (take_taken size behind left) ∙ ap (take size) read ∙ take-append-le size body new (omega (arith, whole)) ∙ take_all size body (omega (arith, whole)),
    )

-- a body whose bytes ended
pub body_short : (left : Option (List ℕ)) (behind : List ℕ) (size : ℕ) → AreFewer (joined (take size behind) left) size
    → IfBodyTold (joined behind left) size (Err unread.Short)
body_short None behind size few = tt
body_short (Some left) behind size few =
    omega (arith, few, length-append (take size behind) left, length-append behind left, length-take size behind)

-- the bytes behind a head that is at the front of a buffer
pub behind_head : (len filled : ℕ) (buffer : List ℕ) → len ≤ filled → drop len (take filled buffer) ≡ slice_range buffer len filled
behind_head len filled buffer ordered =
    ap (λ n. drop len (take n buffer)) (omega (arith, ordered)) ∙ drop-take len (filled - len) buffer
