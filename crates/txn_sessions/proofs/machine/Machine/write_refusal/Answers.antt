use Rattle.std.proofs.Common.{◌∙◌, ap₂}
use Rattle.std.specs.Option.{option_or}
use Rattle.row_model.specs.Step.{busy_beside, old_snapshot}
use Rattle.txn_sessions.specs.Seen.{session_at, state_of}
use Rattle.txn_sessions.proofs.ChangeLaws.{first-or}
use Rattle.txn_sessions.proofs.machine.Machine.write_refusal.Goals as goal

pub returns : goal.returns
returns c =
    let m = c.args.self.now in
    c.or.ensures ∙ ap₂ option_or c.busy_beside.ensures c.old_snapshot.ensures
    ∙ first-or (busy_beside (state_of m) (session_at m c.args.at)) (old_snapshot (state_of m) (session_at m c.args.at).phase)
