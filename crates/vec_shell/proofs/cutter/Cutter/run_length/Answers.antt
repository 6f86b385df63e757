use Rattle.memchr.specs.Find.{is_byte, is_byte2}
use Rattle.vec_shell.proofs.CutterLaws.{quoted_run, open_run, found_inside}
use Rattle.vec_shell.proofs.cutter.Cutter.run_length.Goals as goal

pub returns-then-self-clause-inside : goal.returns-then-self-clause-inside
returns-then-self-clause-inside c = found_inside (is_byte 39) c.args.bytes.now c.memchr.result c.unwrap_or.result c.memchr.ensures c.unwrap_or.ensures

pub returns-then-self-clause-run : goal.returns-then-self-clause-run
returns-then-self-clause-run c k less = quoted_run c.args.self.now.quoted c.args.bytes.now c.memchr.result c.unwrap_or.result k c.if-self.true c.memchr.ensures c.unwrap_or.ensures less

pub returns-else-self-clause-inside : goal.returns-else-self-clause-inside
returns-else-self-clause-inside c = found_inside (is_byte2 39 59) c.args.bytes.now c.memchr2.result c.unwrap_or-else-self.result c.memchr2.ensures c.unwrap_or-else-self.ensures

pub returns-else-self-clause-run : goal.returns-else-self-clause-run
returns-else-self-clause-run c k less = open_run c.args.self.now.quoted c.args.bytes.now c.memchr2.result c.unwrap_or-else-self.result k c.if-self.false c.memchr2.ensures c.unwrap_or-else-self.ensures less
