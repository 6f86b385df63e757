use Rattle.table_version.proofs.table.TableVersion.known.Goals as goal

pub returns : goal.returns
returns c = rw (← c.self.view_is) c.self.invariant.placed
