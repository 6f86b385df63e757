use Rattle.std.proofs.Common.{◌≡◌, ◌<◌, ◌≤◌, length, ap, arith, ⊎_elim}
use Rattle.row_store.specs.inner.Parts.{number_at}
use Rattle.row_store.proofs.PartLaws.{number_at-read, numbers-rise, none_between, part_of-at}
use Rattle.std.proofs.lemmas.Bool.{cases_lt}
use Rattle.row_store.proofs.parts.find.Goals as goal

pub returns-then-at-len : goal.returns-then-at-len
returns-then-at-len c =
    let same = c.from.ensures in
    none_between c.args.parts.now c.args.number c.first_from-at.result (λ k lt. let h = c.first_from-at.ensures.front k lt in omega (arith, h, same)) (λ k le lt. absurd (omega arith))

pub returns-then-get-number : goal.returns-then-get-number
returns-then-get-number c =
    let parts = c.args.parts.now in
    let at = c.first_from-at.result in
    let within : at < length parts = omega (arith, c.first_from-at.ensures.within) in
    let is : number_at parts at ≡ c.get.result.now.number = number_at-read parts at c.get.result.now within c.get.ensures in
    let same = ap (λ p. p.number) c.get-2.ensures in
    let other = c.if-get-number.true in
    let number = c.from.ensures in
    let least = c.first_from-at.ensures.back at (omega arith) within in
    let above : c.args.number < number_at parts at = omega (arith, is, same, other, number, least) in
    none_between parts c.args.number at (λ k lt. let h = c.first_from-at.ensures.front k lt in omega (arith, h, number))
    (λ k le lt. ⊎_elim (λ (low : at < k). let h = numbers-rise parts at k c.requires low lt in omega (arith, h, above)) (λ (high : k ≤ at). let e : at ≡ k = omega arith in let h = ap (number_at parts) e in omega (arith, h, above)) (cases_lt at k))

pub returns : goal.returns
returns c =
    let parts = c.args.parts.now in
    let at = c.first_from-at.result in
    let within : at < length parts = omega (arith, c.first_from-at.ensures.within) in
    let is : number_at parts at ≡ c.get.result.now.number = number_at-read parts at c.get.result.now within c.get.ensures in
    let same = ap (λ p. p.number) c.get-2.ensures in
    let number : number_at parts at ≡ c.args.number = omega (arith, is, same, c.if-get-number.false) in
    (within, λ d. part_of-at parts c.args.number at d c.requires within number)
