use Rattle.vec_shell.proofs.CutterLaws.{first_part}
use Rattle.vec_shell.proofs.cutter.first_of.Goals as goal

pub returns : goal.returns
returns c = rw c.min.ensures (first_part c.args.count c.args.bytes.now)
