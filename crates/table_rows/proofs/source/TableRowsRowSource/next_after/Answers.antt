use Rattle.std.proofs.Common.{◌∙◌}
use Rattle.table_rows.proofs.ScanLaws.{next_shown, rising_shown}
use Rattle.table_rows.proofs.source.TableRowsRowSource.next_after.Goals as goal

pub returns-clause-next : goal.returns-clause-next
returns-clause-next c = c.scan_next.ensures ∙ next_shown c.args.self.now.plan.now c.args.after c.args.self.now.table.now.table

pub returns-clause-rising : goal.returns-clause-rising
returns-clause-rising c = rising_shown c.args.self.now.plan.now c.args.self.now.table.now.table c.known.ensures.valid.rising
