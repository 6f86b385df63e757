use Rattle.txn_commits.proofs.SettleLaws.{ended_sound}
use Rattle.txn_commits.proofs.turns.settle.Goals as goal

pub returns-in-Done-clause-sound : goal.returns-in-Done-clause-sound
returns-in-Done-clause-sound c =
    rw (c.advance.ensures.shelf, c.advance.ensures.held, c.advance.ensures.sessions)
    (ended_sound c.args.machine.now.shelf c.args.machine.now.held c.args.held c.args.machine.now.sessions.items c.args.ending c.requires.sound c.requires.on c.requires.ends)
