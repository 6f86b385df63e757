use Rattle.std.proofs.Common.{◌≡◌, ◌-◌, ◌<◌, length, get_or, ap, ◌∙◌, arith}
use Rattle.std.proofs.lemmas.List.{take_all}
use Rattle.shared_leaves.specs.inner.Joined.{joined, ends_of}
use Rattle.shared_leaves.proofs.EndsLaws.{length-ends, end_before}
use Rattle.shared_leaves.proofs.leaves.last_end.Goals as goal

pub bounds-ends-last : goal.bounds-ends-last
bounds-ends-last g c =
    let n = ap length c.requires ∙ length-ends 0 c.args.leaves.now in
    omega (arith, n)

pub returns-in-Some : goal.returns-in-Some
returns-in-Some g c =
    let xss = c.args.leaves.now in
    let low : 0 < length xss = omega arith in
    let last : c.in-Some.last ≡ length xss - 1 = omega arith in
    ap (λ l. get_or l c.in-Some.last 0) c.requires
    ∙ ap (λ k. get_or (ends_of 0 xss) k 0) last
    ∙ end_before xss (length xss) low (omega arith)
    ∙ ap (λ l. length (joined l)) (take_all (length xss) xss (omega arith))
