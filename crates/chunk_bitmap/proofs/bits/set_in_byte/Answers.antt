use Rattle.std.proofs.Common.{rules, ◌≡◌, ◌+◌, ◌/◌, ◌%◌, ◌^◌, ◌<◌, ap, ◌∙◌, arith}
use Rattle.std.specs.Int.{w8, bit_at, trailing_zeros}
use Rattle.std.proofs.lemmas.Nat.Bits.{bit_at-trailing_zeros}
use Rattle.chunk_bitmap.proofs.BitLaws.{clear_above, lowest_from, set_inside}
use Rattle.chunk_bitmap.proofs.bits.set_in_byte.Goals as goal

pub returns-then-rest-eq0 : goal.returns-then-rest-eq0
returns-then-rest-eq0 c = λ j le lt. clear_above c.args.byte (c.args.place % 8) (search rules) j le

pub returns : goal.returns
returns c =
    let b = c.args.byte in
    let k = c.args.place % 8 in
    let some : 0 < b / 2 ^ k = search rules in
    let small : b / 2 ^ k < 256 = search rules in
    let low = bit_at-trailing_zeros w8 (b / 2 ^ k) some small in
    let t = trailing_zeros w8 (b / 2 ^ k) in
    let lowest = lowest_from b k t low.1 low.2 in
    let within : k + t < 8 = set_inside b (k + t) (search rules) lowest.set in
    let place : (c.args.place + t) % 8 ≡ k + t = omega (arith, within) in
    (ap (bit_at b) place ∙ lowest.set, omega (arith, within), omega arith, λ j le lt. lowest.below j le (omega (arith, lt, place)))
