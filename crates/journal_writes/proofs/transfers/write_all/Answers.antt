use Rattle.std.proofs.Common.{◌≡◌, ◌+◌, ◌-◌, List, ℕ, IsTrue, length, take, drop, ◌∙◌, ap, arith, length-drop}
use Rattle.std.proofs.lemmas.List.{take_all, length-take-le}
use Rattle.journal_disk.specs.Disk.{Follows, Torn}
use Rattle.journal_disk.specs.History.{put}
use Rattle.journal_writes.proofs.Steps.{put_more, follows_more, goes_on}
use Rattle.journal_writes.proofs.transfers.write_all.Goals as goal

pub loop-done-preserved : goal.loop-done-preserved
loop-done-preserved g c =
    let inv = c.loop-done.invariant in
    let w = c.write_some-n.ensures in
    let rest = drop c.loop-done.done c.args.bytes.now in
    let piece : take (length c.args.bytes.now - c.loop-done.done) rest ≡ rest = take_all (length c.args.bytes.now - c.loop-done.done) rest (omega (arith, length-drop c.loop-done.done c.args.bytes.now)) in
    let long : length (take (length c.args.bytes.now - c.loop-done.done) rest) ≡ length c.args.bytes.now - c.loop-done.done = length-take-le (length c.args.bytes.now - c.loop-done.done) rest (omega (arith, length-drop c.loop-done.done c.args.bytes.now)) in
    let k = c.loop-done.done in
    let n = c.write_some-n.result in
    let torn : IsTrue (g.D.Disk.tells c.args.disk.now) → Follows (Torn c.args.at (length c.args.bytes.now)) (g.D.Disk.may_leave c.args.disk.now) (g.D.Disk.may_leave c.write_some-n.new.disk) = λ told.
    follows_more c.args.at (length c.args.bytes.now) k (length (take (length c.args.bytes.now - k) rest)) (g.D.Disk.may_leave c.args.disk.now) (g.D.Disk.may_leave c.loop-done.disk) (g.D.Disk.may_leave c.write_some-n.new.disk) (omega arith) (inv.torn told) (w.torn (inv.tells ∙ told)) in
    record {
      within = omega arith;
      end = λ some. let h = w.end (omega arith) in omega arith;
      tells = w.tells ∙ inv.tells;
      written = λ told. w.written (inv.tells ∙ told) (omega arith)
          ∙ ap (λ (l : List ℕ). put l (c.args.at + k) (take n (take (length c.args.bytes.now - k) rest))) (inv.written told)
          ∙ ap (λ (l : List ℕ). put (put (g.D.Disk.reads c.args.disk.now) c.args.at (take k c.args.bytes.now)) (c.args.at + k) (take n l)) piece
          ∙ put_more (g.D.Disk.reads c.args.disk.now) c.args.bytes.now c.args.at k n (c.requires.start told) (omega arith);
      torn = torn;
      time = λ told. goes_on g.D.Disk.moment g.D.Disk.left_since c.args.disk.now c.loop-done.disk c.write_some-n.new.disk (λ f. (d : List ℕ) × g.D.Disk.may_leave c.args.disk.now d × Torn c.args.at (length c.args.bytes.now) d f) (g.D.Disk.may_leave c.write_some-n.new.disk) (inv.time told) w.time (torn told);
      clock = omega (arith, w.clock, inv.clock);
      count = omega arith;
    }

pub returns-then-n-eq0-clause-torn : goal.returns-then-n-eq0-clause-torn
returns-then-n-eq0-clause-torn g c told =
    let inv = c.loop-done.invariant in
    let rest = drop c.loop-done.done c.args.bytes.now in
    let long : length (take (length c.args.bytes.now - c.loop-done.done) rest) ≡ length c.args.bytes.now - c.loop-done.done = length-take-le (length c.args.bytes.now - c.loop-done.done) rest (omega (arith, length-drop c.loop-done.done c.args.bytes.now)) in
    follows_more c.args.at (length c.args.bytes.now) c.loop-done.done (length (take (length c.args.bytes.now - c.loop-done.done) rest)) (g.D.Disk.may_leave c.args.disk.now) (g.D.Disk.may_leave c.loop-done.disk) (g.D.Disk.may_leave c.write_some-n.new.disk) (omega arith) (inv.torn told) (c.write_some-n.ensures.torn (inv.tells ∙ told))

pub returns-then-n-eq0-clause-time : goal.returns-then-n-eq0-clause-time
returns-then-n-eq0-clause-time g c told =
    let inv = c.loop-done.invariant in
    let rest = drop c.loop-done.done c.args.bytes.now in
    let long : length (take (length c.args.bytes.now - c.loop-done.done) rest) ≡ length c.args.bytes.now - c.loop-done.done = length-take-le (length c.args.bytes.now - c.loop-done.done) rest (omega (arith, length-drop c.loop-done.done c.args.bytes.now)) in
    let torn = follows_more c.args.at (length c.args.bytes.now) c.loop-done.done (length (take (length c.args.bytes.now - c.loop-done.done) rest)) (g.D.Disk.may_leave c.args.disk.now) (g.D.Disk.may_leave c.loop-done.disk) (g.D.Disk.may_leave c.write_some-n.new.disk) (omega arith) (inv.torn told) (c.write_some-n.ensures.torn (inv.tells ∙ told)) in
    goes_on g.D.Disk.moment g.D.Disk.left_since c.args.disk.now c.loop-done.disk c.write_some-n.new.disk (λ f. (d : List ℕ) × g.D.Disk.may_leave c.args.disk.now d × Torn c.args.at (length c.args.bytes.now) d f) (g.D.Disk.may_leave c.write_some-n.new.disk) (inv.time told) c.write_some-n.ensures.time torn
