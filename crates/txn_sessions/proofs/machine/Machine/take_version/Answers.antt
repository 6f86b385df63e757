use Rattle.std.proofs.Common.{◌∙◌, inl, sym}
use Rattle.row_model.specs.Step.{spent_at_once}
use Rattle.txn_sessions.specs.Seen.{session_at, state_of}
use Rattle.txn_sessions.proofs.TurnLaws.{takes_none, unless-some}
use Rattle.txn_sessions.proofs.machine.Machine.take_version.Goals as goal

pub returns-in-Some : goal.returns-in-Some
returns-in-Some c =
    let old = c.args.self.now in
    inl (takes_none old _ _ c.requires.sound (unless-some (spent_at_once (state_of old) (session_at old c.args.at).phase) (state_of old) _ c.in-Some.refusal (sym c.in-Some.is ∙ c.spent_at_once.ensures)))
