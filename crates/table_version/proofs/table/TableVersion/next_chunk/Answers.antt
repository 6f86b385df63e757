use Rattle.table_version.proofs.ReaderLaws.{next_after}
use Rattle.table_version.proofs.table.TableVersion.next_chunk.Goals as goal

pub returns : goal.returns
returns c = rw (← c.self.view_is) (next_after c.self.inside.schema.columns c.self.inside.rows.rows c.args.after c.next_chunk.result c.next_chunk.ensures)
