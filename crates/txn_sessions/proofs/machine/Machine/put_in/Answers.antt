use Rattle.std.proofs.Common.{ap}
use Rattle.version_shelf.specs.Numbers.{catalog_of}
use Rattle.txn_sessions.proofs.ChangeLaws.{wrote-moved}
use Rattle.txn_sessions.proofs.machine.Machine.put_in.Goals as goal

pub returns-in-Ok : goal.returns-in-Ok
returns-in-Ok c =
    wrote-moved c.args.self.now c.put.new.self c.install.new.self c.args.at c.args.changed.reply c.in-Ok.held _ c.install.result c.put.ensures.moved c.requires.room (ap catalog_of c.in-Ok.ensures.shown) c.install.ensures
