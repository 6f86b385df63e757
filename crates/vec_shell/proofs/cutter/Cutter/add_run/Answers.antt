use Rattle.std.proofs.Common.{take}
use Rattle.vec_shell.proofs.CutterLaws.{run_goes_on, run_held}
use Rattle.vec_shell.proofs.cutter.Cutter.add_run.Goals as goal

pub returns-clause-goes_on : goal.returns-clause-goes_on
returns-clause-goes_on c piece holds = (run_goes_on c.args.self.now piece c.args.bytes.now c.run_length-run.result c.run_length-run.ensures.inside c.run_length-run.ensures.run holds).0

pub returns-clause-holds : goal.returns-clause-holds
returns-clause-holds c piece holds =
    run_held c.args.self.now c.keep.new.self piece (take c.run_length-run.result c.args.bytes.now) c.keep.ensures.quoted
    (run_goes_on c.args.self.now piece c.args.bytes.now c.run_length-run.result c.run_length-run.ensures.inside c.run_length-run.ensures.run holds).1
    (c.keep.ensures.text piece holds.kept) holds
