use Rattle.std.proofs.Common.{◌≡◌, ◌+◌, ◌-◌, ◌/◌, ◌<◌, length, ap, arith}
use Rattle.row_store.specs.inner.Parts.{number_at}
use Rattle.row_store.proofs.PartLaws.{number_at-read, from_on}
use Rattle.row_store.proofs.parts.first_from.Goals as goal

pub loop-low-preserved-then-from-number : goal.loop-low-preserved-then-from-number
loop-low-preserved-then-from-number c =
    let parts = c.args.parts.now in
    let middle = c.loop-low.low + (c.loop-low.high - c.loop-low.low) / 2 in
    let within : middle < length parts = omega (arith, c.loop-low.invariant.in_range) in
    let is : number_at parts middle ≡ c.get.result.now.number = number_at-read parts middle c.get.result.now within c.get.ensures in
    let same = ap (λ p. p.number) c.get-in-loop-low.ensures in
    record {
      in_range = (omega arith, omega arith);
      front = λ k lt. let h = from_on parts k middle c.requires (omega arith) within in omega (arith, h, is, same);
      back = c.loop-low.invariant.back;
    }

pub loop-low-preserved : goal.loop-low-preserved
loop-low-preserved c =
    let parts = c.args.parts.now in
    let middle = c.loop-low.low + (c.loop-low.high - c.loop-low.low) / 2 in
    let within : middle < length parts = omega (arith, c.loop-low.invariant.in_range) in
    let is : number_at parts middle ≡ c.get.result.now.number = number_at-read parts middle c.get.result.now within c.get.ensures in
    let same = ap (λ p. p.number) c.get-in-loop-low.ensures in
    record {
      in_range = (omega arith, omega arith);
      front = c.loop-low.invariant.front;
      back = λ k le lt. let h = from_on parts middle k c.requires le lt in omega (arith, h, is, same);
    }
