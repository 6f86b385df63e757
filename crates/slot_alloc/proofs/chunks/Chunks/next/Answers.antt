use Rattle.std.proofs.Common.{◌<◌, ◌≤◌, length, ap, is_some, arith}
use Rattle.slot_alloc.specs.Places.{partition_in}
use Rattle.slot_alloc.proofs.ChunkLaws.{none_later, next_later, next_there, next_least}
use Rattle.slot_alloc.proofs.chunks.Chunks.next.Goals as goal

pub returns-then-at-len : goal.returns-then-at-len
returns-then-at-len c =
    let xs = c.self.inside.chunks in
    let at = c.front_len-at.result in
    let rise = c.self.invariant.rise in
    let x = c.get.result.now in
    let lt : at < length xs = omega (arith, c.if-at-len.true, c.len.ensures) in
    rw (← c.self.view_is) (
      next_later c.args.after xs at rise c.front_len-at.ensures x lt c.get.ensures,
      ap (λ o. is_some (partition_in o)) (next_there c.args.after xs at rise c.front_len-at.ensures x lt c.get.ensures),
      λ d more less. ap (λ o. is_some (partition_in o)) (next_least c.args.after xs at rise c.front_len-at.ensures x lt c.get.ensures d more less),
    )

pub returns-else-at-len : goal.returns-else-at-len
returns-else-at-len c =
    let xs = c.self.inside.chunks in
    let at = c.front_len-at.result in
    let end : length xs ≤ at = omega (arith, c.if-at-len.false, c.len.ensures) in
    rw (← c.self.view_is) (λ d more. ap (λ o. is_some (partition_in o)) (none_later c.args.after xs at c.self.invariant.rise c.front_len-at.ensures end d more))
