use Rattle.plain_engine.proofs.SessionLaws.{sees_valid}
use Rattle.plain_engine.proofs.machine.Machine.execute.Goals as goal

pub drop_table-requires-clause-valid : goal.drop_table-requires-clause-valid
drop_table-requires-clause-valid c = sees_valid c.args.self.now c.args.at c.requires.at c.requires.valid

pub insert-requires-clause-valid : goal.insert-requires-clause-valid
insert-requires-clause-valid c = sees_valid c.args.self.now c.args.at c.requires.at c.requires.valid

pub update-requires-clause-valid : goal.update-requires-clause-valid
update-requires-clause-valid c = sees_valid c.args.self.now c.args.at c.requires.at c.requires.valid

pub delete-requires-clause-valid : goal.delete-requires-clause-valid
delete-requires-clause-valid c = sees_valid c.args.self.now c.args.at c.requires.at c.requires.valid

pub select-requires : goal.select-requires
select-requires c = record { valid = rw c.seen.ensures (sees_valid c.args.self.now c.args.at c.requires.at c.requires.valid) }

pub explain-requires : goal.explain-requires
explain-requires c = record { valid = rw c.seen-in-Explain.ensures (sees_valid c.args.self.now c.args.at c.requires.at c.requires.valid) }
