use Rattle.std.proofs.Common.{arith, ◌≡◌, ◌++◌, ◌+◌, ◌-◌, take, drop, sym, ap, ◌∙◌}
use Rattle.std.proofs.Math.Seq.{take-add}
use Rattle.vec_shell.proofs.Buffering.{puts_same}
use Rattle.vec_shell.specs.inner.Puts.{puts_both}
use Rattle.vec_shell.proofs.output.Output.put.Goals as goal

pub loop-at-preserved : goal.loop-at-preserved
loop-at-preserved g c =
    let part = c.args.part.now in
    let at = c.loop-at.at in
    let n = c.min.result in
    let count : at + n - at ≡ n = omega arith in
    record {
      within = omega arith;
      puts = puts_same (ap (λ k. take at part ++ take k (drop at part)) count ∙ sym (take-add at n part)) (puts_both c.loop-at.invariant.puts c.hold.ensures);
    }
