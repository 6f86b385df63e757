-- One, two or three digits.
use Rattle.std.proofs.Common.{◌+◌, ◌*◌, arith}
use Rattle.vec_literal.proofs.Int8Usual.{digits_begun, two_digits, three_digits}
use Rattle.vec_literal.proofs.usual_int8.digits_at.Goals as goal

pub returns-then-one-eq0 : goal.returns-then-one-eq0
returns-then-one-eq0 c =
    rw c.new.ensures (digits_begun c.args.text.now c.args.negative c.args.from c.in-Some.one c.in-Some.ensures.inside c.in-Some.ensures.digit c.in-Some.ensures.value)

pub returns-in_default-digit_at : goal.returns-in_default-digit_at
returns-in_default-digit_at c =
    rw c.new-in_default-digit_at.ensures (digits_begun c.args.text.now c.args.negative c.args.from c.in-Some.one c.in-Some.ensures.inside c.in-Some.ensures.digit c.in-Some.ensures.value)

pub returns-in_default-digit_at-2 : goal.returns-in_default-digit_at-2
returns-in_default-digit_at-2 c =
    let one = digits_begun c.args.text.now c.args.negative c.args.from c.in-Some.one c.in-Some.ensures.inside c.in-Some.ensures.digit c.in-Some.ensures.value in
    rw c.new-in_default-digit_at-2.ensures
    (two_digits c.args.text.now c.args.negative c.args.from c.in-Some.one c.in-Some-digit_at.digit one (omega arith) (omega (arith, c.in-Some.ensures.small))
    c.in-Some-digit_at.ensures.inside c.in-Some-digit_at.ensures.digit c.in-Some-digit_at.ensures.value)

pub returns : goal.returns
returns c =
    let one = digits_begun c.args.text.now c.args.negative c.args.from c.in-Some.one c.in-Some.ensures.inside c.in-Some.ensures.digit c.in-Some.ensures.value in
    let two = two_digits c.args.text.now c.args.negative c.args.from c.in-Some.one c.in-Some-digit_at.digit one (omega arith) (omega (arith, c.in-Some.ensures.small))
    c.in-Some-digit_at.ensures.inside c.in-Some-digit_at.ensures.digit c.in-Some-digit_at.ensures.value in
    rw c.new-2.ensures
    (three_digits c.args.text.now c.args.negative c.args.from (c.in-Some.one * 10 + c.in-Some-digit_at.digit) c.in-Some-digit_at-2.digit two (omega arith) (omega (arith, c.in-Some.ensures.small, c.in-Some-digit_at.ensures.small))
    c.in-Some-digit_at-2.ensures.inside c.in-Some-digit_at-2.ensures.digit c.in-Some-digit_at-2.ensures.value)
