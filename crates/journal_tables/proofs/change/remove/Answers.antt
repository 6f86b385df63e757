use Rattle.std.proofs.Common.{is_some, ap, sym, ◌∙◌}
use Rattle.journal_tables.proofs.MapLaws.{found, removed}
use Rattle.journal_tables.proofs.change.remove.Goals as goal

pub returns-clause-there : goal.returns-clause-there
returns-clause-there c = c.is_some.ensures ∙ ap is_some (c.remove.ensures.value ∙ sym (found c.args.tables.now.entries c.args.key.now))

pub returns-clause-gone : goal.returns-clause-gone
returns-clause-gone c = removed c.args.tables.now.entries c.remove.new.self.entries c.args.key.now c.remove.ensures.updates.0
