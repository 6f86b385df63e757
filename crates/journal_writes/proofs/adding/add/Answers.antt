use Rattle.std.proofs.Common.{◌≡◌, ◌≢◌, inl, inr, ◌+◌, ◌++◌, ◌∷◌, [], List, ℕ, true, length, sym, ap, ◌∙◌, append_assoc, arith, rules}
use Rattle.journal_disk.specs.History.{put}
use Rattle.journal_writes.specs.Moments.{TornFrom}
use Rattle.journal_writes.specs.Gates.{Stands, Gated, Rests, MayShow}
use Rattle.journal_writes.proofs.Steps.{weaker, joined}
use Rattle.journal_writes.proofs.GateLaws.{stands_torn, gated_torn, staged_put, gate_put, follows_all, only_are}
use Rattle.journal_writes.proofs.adding.add.Goals as goal

pub returns-then-not-close-clause-during : goal.returns-then-not-close-clause-during
returns-then-not-close-clause-during g c told front tail is all =
    weaker g.D.Disk.moment g.D.Disk.left_since c.args.disk.now c.close.new.disk (Rests c.args.uncertain front tail) (MayShow c.args.uncertain front tail c.args.staged.now) (c.close.ensures.during told front tail is all) (λ f r. inl r)

-- ---- the block could not be written

pub returns-then-not-stage-clause-now : goal.returns-then-not-stage-clause-now
returns-then-not-stage-clause-now g c told front tail block is staged all =
    let closed : c.close.result ≡ true = search rules in
    let told1 = c.close.ensures.tells ∙ told in
    let stand1 = c.close.ensures.closed told closed front tail is all in
    follows_all (c.args.gate + 1) (length c.args.staged.now) (Stands front) (g.D.Disk.may_leave c.close.new.disk) (g.D.Disk.may_leave c.stage.new.disk)
    (stands_torn front c.args.gate is (length c.args.staged.now) (g.D.Disk.may_leave c.close.new.disk) stand1) (c.stage.ensures.torn told1)

pub returns-then-not-stage-clause-during : goal.returns-then-not-stage-clause-during
returns-then-not-stage-clause-during g c told front tail is all =
    let closed : c.close.result ≡ true = search rules in
    let told1 = c.close.ensures.tells ∙ told in
    let stand1 = c.close.ensures.closed told closed front tail is all in
    let P = MayShow c.args.uncertain front tail c.args.staged.now in
    let one = weaker g.D.Disk.moment g.D.Disk.left_since c.args.disk.now c.close.new.disk (Rests c.args.uncertain front tail) P (c.close.ensures.during told front tail is all) (λ f r. inl r) in
    joined g.D.Disk.moment g.D.Disk.left_since c.args.disk.now c.close.new.disk c.stage.new.disk P (TornFrom (g.D.Disk.may_leave c.close.new.disk) (c.args.gate + 1) (length c.args.staged.now)) one (c.stage.ensures.time told1)
    (λ f from. inr (inl (stands_torn front c.args.gate is (length c.args.staged.now) (g.D.Disk.may_leave c.close.new.disk) stand1 f from)))

-- ---- the gate may be open or not

pub returns-then-not-write_synced-clause-now : goal.returns-then-not-write_synced-clause-now
returns-then-not-write_synced-clause-now g c told front tail block is staged all =
    let closed : c.close.result ≡ true = search rules in
    let told1 = c.close.ensures.tells ∙ told in
    let stand1 = c.close.ensures.closed told closed front tail is all in
    let wrote : c.stage.result ≡ true = search rules in
    let told2 = c.stage.ensures.tells ∙ told1 in
    let made = staged_put front c.args.gate is (g.D.Disk.reads c.close.new.disk) c.args.staged.now (stand1 (g.D.Disk.reads c.close.new.disk) (g.met.D.Disk.reads_now c.close.new.disk told1)) in
    let gated = only_are (Gated front (c.args.staged.now ++ made.1)) (g.D.Disk.may_leave c.stage.new.disk) (put (g.D.Disk.reads c.close.new.disk) (c.args.gate + 1) c.args.staged.now) (c.stage.ensures.only told1 wrote) (made.0, made.3) in (
      made.1,
      follows_all c.args.gate 1 (Gated front (c.args.staged.now ++ made.1)) (g.D.Disk.may_leave c.stage.new.disk) (g.D.Disk.may_leave c.write_synced.new.disk)
          (gated_torn front c.args.gate is (c.args.staged.now ++ made.1) (g.D.Disk.may_leave c.stage.new.disk) gated) (c.write_synced.ensures.torn told2),
    )

pub returns-then-not-write_synced-clause-during : goal.returns-then-not-write_synced-clause-during
returns-then-not-write_synced-clause-during g c told front tail is all =
    let closed : c.close.result ≡ true = search rules in
    let told1 = c.close.ensures.tells ∙ told in
    let stand1 = c.close.ensures.closed told closed front tail is all in
    let P = MayShow c.args.uncertain front tail c.args.staged.now in
    let one = weaker g.D.Disk.moment g.D.Disk.left_since c.args.disk.now c.close.new.disk (Rests c.args.uncertain front tail) P (c.close.ensures.during told front tail is all) (λ f r. inl r) in
    let two = joined g.D.Disk.moment g.D.Disk.left_since c.args.disk.now c.close.new.disk c.stage.new.disk P (TornFrom (g.D.Disk.may_leave c.close.new.disk) (c.args.gate + 1) (length c.args.staged.now)) one (c.stage.ensures.time told1)
    (λ f from. inr (inl (stands_torn front c.args.gate is (length c.args.staged.now) (g.D.Disk.may_leave c.close.new.disk) stand1 f from))) in
    let wrote : c.stage.result ≡ true = search rules in
    let told2 = c.stage.ensures.tells ∙ told1 in
    let made = staged_put front c.args.gate is (g.D.Disk.reads c.close.new.disk) c.args.staged.now (stand1 (g.D.Disk.reads c.close.new.disk) (g.met.D.Disk.reads_now c.close.new.disk told1)) in
    let gated = only_are (Gated front (c.args.staged.now ++ made.1)) (g.D.Disk.may_leave c.stage.new.disk) (put (g.D.Disk.reads c.close.new.disk) (c.args.gate + 1) c.args.staged.now) (c.stage.ensures.only told1 wrote) (made.0, made.3) in
    joined g.D.Disk.moment g.D.Disk.left_since c.args.disk.now c.stage.new.disk c.write_synced.new.disk P (TornFrom (g.D.Disk.may_leave c.stage.new.disk) c.args.gate 1) two (c.write_synced.ensures.time told2)
    (λ f from. inr (inr (made.1, gated_torn front c.args.gate is (c.args.staged.now ++ made.1) (g.D.Disk.may_leave c.stage.new.disk) gated f from)))

-- ---- done

pub returns-clause-now : goal.returns-clause-now
returns-clause-now g c told front tail block is staged all =
    let closed : c.close.result ≡ true = search rules in
    let told1 = c.close.ensures.tells ∙ told in
    let stand1 = c.close.ensures.closed told closed front tail is all in
    let wrote : c.stage.result ≡ true = search rules in
    let told2 = c.stage.ensures.tells ∙ told1 in
    let opened : c.write_synced.result ≡ true = search rules in
    let made = staged_put front c.args.gate is (g.D.Disk.reads c.close.new.disk) c.args.staged.now (stand1 (g.D.Disk.reads c.close.new.disk) (g.met.D.Disk.reads_now c.close.new.disk told1)) in
    let tail2 = c.args.staged.now ++ made.1 in
    let reads2 = g.D.Disk.reads c.stage.new.disk in
    let gated = only_are (Gated front tail2) (g.D.Disk.may_leave c.stage.new.disk) (put (g.D.Disk.reads c.close.new.disk) (c.args.gate + 1) c.args.staged.now) (c.stage.ensures.only told1 wrote) (made.0, made.3) in
    let whole : put reads2 c.args.gate (1 ∷ []) ≡ (front ++ 1 ∷ block) ++ 0 ∷ made.1 =
    gate_put front c.args.gate is tail2 reads2 1 (gated reads2 (g.met.D.Disk.reads_now c.stage.new.disk told2))
    ∙ ap (λ (l : List ℕ). front ++ 1 ∷ (l ++ made.1)) staged ∙ ap (λ (l : List ℕ). front ++ 1 ∷ l) (append_assoc block (0 ∷ []) made.1) ∙ sym (append_assoc front (1 ∷ block) (0 ∷ made.1)) in
    only_are (Stands (front ++ 1 ∷ block)) (g.D.Disk.may_leave c.write_synced.new.disk) (put reads2 c.args.gate (1 ∷ [])) (c.write_synced.ensures.only told2 opened) (0, made.1, (let P : 0 ≢ 1 = omega arith in P), whole)

pub returns-clause-during : goal.returns-clause-during
returns-clause-during g c told front tail is all =
    let closed : c.close.result ≡ true = search rules in
    let told1 = c.close.ensures.tells ∙ told in
    let stand1 = c.close.ensures.closed told closed front tail is all in
    let P = MayShow c.args.uncertain front tail c.args.staged.now in
    let one = weaker g.D.Disk.moment g.D.Disk.left_since c.args.disk.now c.close.new.disk (Rests c.args.uncertain front tail) P (c.close.ensures.during told front tail is all) (λ f r. inl r) in
    let two = joined g.D.Disk.moment g.D.Disk.left_since c.args.disk.now c.close.new.disk c.stage.new.disk P (TornFrom (g.D.Disk.may_leave c.close.new.disk) (c.args.gate + 1) (length c.args.staged.now)) one (c.stage.ensures.time told1)
    (λ f from. inr (inl (stands_torn front c.args.gate is (length c.args.staged.now) (g.D.Disk.may_leave c.close.new.disk) stand1 f from))) in
    let wrote : c.stage.result ≡ true = search rules in
    let told2 = c.stage.ensures.tells ∙ told1 in
    let made = staged_put front c.args.gate is (g.D.Disk.reads c.close.new.disk) c.args.staged.now (stand1 (g.D.Disk.reads c.close.new.disk) (g.met.D.Disk.reads_now c.close.new.disk told1)) in
    let gated = only_are (Gated front (c.args.staged.now ++ made.1)) (g.D.Disk.may_leave c.stage.new.disk) (put (g.D.Disk.reads c.close.new.disk) (c.args.gate + 1) c.args.staged.now) (c.stage.ensures.only told1 wrote) (made.0, made.3) in
    joined g.D.Disk.moment g.D.Disk.left_since c.args.disk.now c.stage.new.disk c.write_synced.new.disk P (TornFrom (g.D.Disk.may_leave c.stage.new.disk) c.args.gate 1) two (c.write_synced.ensures.time told2)
    (λ f from. inr (inr (made.1, gated_torn front c.args.gate is (c.args.staged.now ++ made.1) (g.D.Disk.may_leave c.stage.new.disk) gated f from)))
