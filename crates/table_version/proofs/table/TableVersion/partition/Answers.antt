use Rattle.std.proofs.Common.{◌∙◌}
use Rattle.table_version.proofs.ReaderLaws.{partition_of_first}
use Rattle.table_version.proofs.table.TableVersion.partition.Goals as goal

pub returns : goal.returns
returns c = rw (← c.self.view_is) (c.partition.ensures ∙ partition_of_first c.self.inside.schema.columns c.self.inside.rows.rows c.args.chunk c.self.invariant.again)
