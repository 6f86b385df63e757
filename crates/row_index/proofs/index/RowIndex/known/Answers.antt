use Rattle.std.proofs.Common.{ap, sym, ◌∙◌}
use Rattle.row_index.specs.Entries.{is_rising, have_own_ids}
use Rattle.row_index.proofs.EntryLaws.{rising_entries}
use Rattle.row_index.proofs.IdLaws.{own_ids}
use Rattle.row_index.proofs.index.RowIndex.known.Goals as goal

pub returns-clause-rising : goal.returns-clause-rising
returns-clause-rising c = sym (ap is_rising c.self.view_is) ∙ rising_entries c.self.inside.entries c.self.invariant.rowids

pub returns-clause-own_ids : goal.returns-clause-own_ids
returns-clause-own_ids c = sym (ap have_own_ids c.self.view_is) ∙ own_ids c.self.inside.entries c.self.inside.ids c.self.invariant.rowids c.self.invariant.paired_ids
