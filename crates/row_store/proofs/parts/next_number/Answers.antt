use Rattle.std.proofs.Common.{◌≡◌, ◌<◌, length, ap, arith}
use Rattle.std.specs.Prelude.{is_some}
use Rattle.row_store.specs.inner.Parts.{number_at}
use Rattle.row_store.proofs.PartLaws.{number_at-read, from_on, none_between, part_of-at}
use Rattle.row_store.proofs.parts.next_number.Goals as goal

pub returns-then-at-len : goal.returns-then-at-len
returns-then-at-len c = λ d lt. let number = c.from.ensures in none_between c.args.parts.now d c.first_from-at.result (λ k low. let h = c.first_from-at.ensures.front k low in omega (arith, h, number, lt)) (λ k le within. absurd (omega arith))

pub returns : goal.returns
returns c =
    let parts = c.args.parts.now in
    let at = c.first_from-at.result in
    let within : at < length parts = omega (arith, c.first_from-at.ensures.within) in
    let is : number_at parts at ≡ c.get.result.now.number = number_at-read parts at c.get.result.now within c.get.ensures in
    let same = ap (λ p. p.number) c.get-2.ensures in
    let number = c.from.ensures in
    let least = c.first_from-at.ensures.back at (omega arith) within in
    let there = part_of-at parts c.get-2.result.now.number at c.get.result.now c.requires within (omega (arith, is, same)) in (
      omega (arith, is, same, number, least),
      ap is_some there,
      λ d above below. none_between parts d at (λ k low. let h = c.first_from-at.ensures.front k low in omega (arith, h, number, above)) (λ k le lt. let h = from_on parts at k c.requires le lt in omega (arith, h, is, same, below)),
    )
