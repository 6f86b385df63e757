use Rattle.std.proofs.Common.{◌+◌, ◌-◌, ◌∙◌, length, arith, inl, inr}
use Rattle.std.proofs.lemmas.List.{length-take-le}
use borrow.Rule.Slice.PartMut.{put_mid}
use Rattle.vec_base.proofs.StreamLaws.{loses-append}
use Rattle.http_heads.specs.declared.head.Head.TheVariants as head
use Rattle.http_heads.proofs.FillLaws.{filled_by, same_length, some_bytes}
use Rattle.http_heads.proofs.HeadLaws.{for_all, none_in_room, risen_more, risen_some, too_many, whole_head}
use Rattle.http_heads.proofs.head.read_head.Goals as goal

pub returns-in-Ok-Complete-clause-took : goal.returns-in-Ok-Complete-clause-took
returns-in-Ok-Complete-clause-took g c =
    rw (filled_by c.loop-filled.filled _ c.in-Took.count c.loop-filled.buffer c.read.new.room c.loop-filled.invariant.within (omega (arith, c.in-Took.ensures.count, c.read.auto.room)))
    (loses-append _ _ _ _ _ c.loop-filled.invariant.took c.in-Took.ensures.bytes)

pub returns-in-Err-clause-took : goal.returns-in-Err-clause-took
returns-in-Err-clause-took g c =
    rw (filled_by c.loop-filled.filled _ c.in-Took.count c.loop-filled.buffer c.read.new.room c.loop-filled.invariant.within (omega (arith, c.in-Took.ensures.count, c.read.auto.room)))
    (loses-append _ _ _ _ _ c.loop-filled.invariant.took c.in-Took.ensures.bytes)

pub returns-in-Ok-Complete-clause-exact : goal.returns-in-Ok-Complete-clause-exact
returns-in-Ok-Complete-clause-exact g c =
    let took = returns-in-Ok-Complete-clause-took g c in
    let count = c.in-Took.ensures.count in
    let kept = same_length c.loop-filled.filled c.loop-filled.buffer c.read.new.room c.loop-filled.invariant.within (omega (arith, c.read.auto.room, c.loop-filled.invariant.within)) in
    let fits = length-take-le (c.loop-filled.filled + c.in-Took.count) (put_mid c.loop-filled.filled (length c.loop-filled.buffer - c.loop-filled.filled) c.loop-filled.buffer c.read.new.room) (omega (arith, kept, count, c.read.auto.room, c.loop-filled.invariant.within)) in
    for_all _ _ _ (head.Whole (c.loop-filled.filled + c.in-Took.count) c.in-Ok-Complete.spans) took
    (λ left. whole_head _ left c.parse_request.new.headers c.in-Ok-Complete.spans
    (rw c.in-Ok-Complete.field-0-is at c.in-Ok-Complete.ensures.complete) (rw c.in-Ok-Complete.field-0-is at c.in-Ok-Complete.ensures.within)
    (omega (arith, c.parse_request.auto.headers, c.loop-filled.invariant.field_room)) (omega (arith, fits, count, c.read.auto.room, c.loop-filled.invariant.within, c.loop-filled.invariant.buffer_room)))

pub returns-in-Err-clause-exact : goal.returns-in-Err-clause-exact
returns-in-Err-clause-exact g c =
    let took = returns-in-Err-clause-took g c in
    let count = c.in-Took.ensures.count in
    let kept = same_length c.loop-filled.filled c.loop-filled.buffer c.read.new.room c.loop-filled.invariant.within (omega (arith, c.read.auto.room, c.loop-filled.invariant.within)) in
    let fits = length-take-le (c.loop-filled.filled + c.in-Took.count) (put_mid c.loop-filled.filled (length c.loop-filled.buffer - c.loop-filled.filled) c.loop-filled.buffer c.read.new.room) (omega (arith, kept, count, c.read.auto.room, c.loop-filled.invariant.within)) in
    for_all _ _ _ (head.Bad (c.loop-filled.filled + c.in-Took.count)) took
    (λ left. (some_bytes _ left (omega (arith, fits, count)), too_many _ left _ c.loop-filled.invariant.field_room c.in-Err.ensures.no_room))

pub loop-filled-preserved : goal.loop-filled-preserved
loop-filled-preserved g c =
    let count = c.in-Took.ensures.count in
    let kept = same_length c.loop-filled.filled c.loop-filled.buffer c.read.new.room c.loop-filled.invariant.within (omega (arith, c.read.auto.room, c.loop-filled.invariant.within)) in
    record {
      here = c.in-Took.ensures.here;
      within = omega (arith, kept, count, c.read.auto.room, c.loop-filled.invariant.within);
      buffer_room = omega (arith, kept, c.loop-filled.invariant.buffer_room);
      field_room = omega (arith, c.parse_request.auto.headers, c.loop-filled.invariant.field_room);
      took = rw (filled_by c.loop-filled.filled _ c.in-Took.count c.loop-filled.buffer c.read.new.room c.loop-filled.invariant.within (omega (arith, count, c.read.auto.room)))
          (loses-append _ _ _ _ _ c.loop-filled.invariant.took c.in-Took.ensures.bytes);
      none = inr (rw c.in-Ok-Partial.field-0-is at c.in-Ok-Partial.ensures.partial);
      coming = c.in-Took.ensures.coming ∙ c.loop-filled.invariant.coming;
      sent = c.in-Took.ensures.sent ∙ c.loop-filled.invariant.sent;
      risen = inr (risen_more _ _ _ _ _ _ _ c.loop-filled.invariant.risen c.loop-filled.invariant.later c.in-Took.ensures.later c.in-Took.ensures.risen);
      later = omega (arith, c.in-Took.ensures.later, c.loop-filled.invariant.later);
    }

pub returns-clause-exact : goal.returns-clause-exact
returns-clause-exact g c =
    let fits = length-take-le c.loop-filled.filled c.loop-filled.buffer c.loop-filled.invariant.within in
    for_all _ _ _ (head.Bad c.loop-filled.filled) c.loop-filled.invariant.took
    (λ left. (
      some_bytes _ left (omega (arith, fits, c.loop-filled.invariant.buffer_room, c.loop-filled-test.false)),
      elim c.loop-filled.invariant.none [
        | inl zero ↦ absurd (omega (arith, zero, c.loop-filled.invariant.buffer_room, c.loop-filled-test.false))
        | inr none ↦ none_in_room _ left none (omega (arith, fits, c.loop-filled.invariant.buffer_room, c.loop-filled-test.false))
      ],
    ))

pub returns-in-Ok-Complete-clause-risen : goal.returns-in-Ok-Complete-clause-risen
returns-in-Ok-Complete-clause-risen g c =
    risen_more _ _ _ _ _ _ _ c.loop-filled.invariant.risen c.loop-filled.invariant.later c.in-Took.ensures.later c.in-Took.ensures.risen

pub returns-in-Err-clause-risen : goal.returns-in-Err-clause-risen
returns-in-Err-clause-risen g c =
    risen_more _ _ _ _ _ _ _ c.loop-filled.invariant.risen c.loop-filled.invariant.later c.in-Took.ensures.later c.in-Took.ensures.risen

pub returns-then-filled-eq0-clause-risen : goal.returns-then-filled-eq0-clause-risen
returns-then-filled-eq0-clause-risen g c =
    risen_more _ _ _ _ _ _ _ c.loop-filled.invariant.risen c.loop-filled.invariant.later c.in-End.ensures.later c.in-End.ensures.risen

pub returns-else-filled-eq0-clause-risen : goal.returns-else-filled-eq0-clause-risen
returns-else-filled-eq0-clause-risen g c =
    risen_more _ _ _ _ _ _ _ c.loop-filled.invariant.risen c.loop-filled.invariant.later c.in-End.ensures.later c.in-End.ensures.risen

pub returns-in-Failed-clause-risen : goal.returns-in-Failed-clause-risen
returns-in-Failed-clause-risen g c =
    risen_more _ _ _ _ _ _ _ c.loop-filled.invariant.risen c.loop-filled.invariant.later c.in-Failed.ensures.later c.in-Failed.ensures.risen

pub returns-clause-risen : goal.returns-clause-risen
returns-clause-risen g c =
    risen_some c.loop-filled.filled _ _ _ _ (omega (arith, c.loop-filled.invariant.buffer_room, c.loop-filled-test.false)) c.loop-filled.invariant.risen
