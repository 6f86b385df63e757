use Rattle.plain_engine.specs.inner.Machines.{IsOfId}
use Rattle.plain_engine.proofs.SessionLaws.{sees_valid}
use Rattle.plain_engine.proofs.machine.Machine.open_cursor_in.Goals as goal

pub open_cursor-requires-clause-valid : goal.open_cursor-requires-clause-valid
open_cursor-requires-clause-valid c =
    let there : IsOfId c.args.id c.args.self.now.sessions.items c.in-Some.at = rw c.as_slice.ensures.value at c.in-Some.ensures in
    sees_valid c.args.self.now c.in-Some.at there.first c.requires.valid
