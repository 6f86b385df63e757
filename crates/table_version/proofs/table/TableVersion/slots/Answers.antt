use Rattle.std.proofs.Common.{◌∙◌, sym, ap}
use Rattle.std.specs.Prelude.{is_some}
use Rattle.table_version.proofs.ReaderLaws.{there_first, held_all}
use Rattle.table_version.proofs.table.TableVersion.slots.Goals as goal

pub returns-in-None-clause-there : goal.returns-in-None-clause-there
returns-in-None-clause-there c =
    rw (← c.self.view_is) (ap is_some (sym c.in-None.is) ∙ c.slots.ensures.there ∙ there_first c.self.inside.schema.columns c.self.inside.rows.rows c.args.chunk)

pub returns-in-Some-clause-there : goal.returns-in-Some-clause-there
returns-in-Some-clause-there c = rw (← c.self.view_is) (ap is_some (sym c.in-Some.is) ∙ c.slots.ensures.there ∙ there_first c.self.inside.schema.columns c.self.inside.rows.rows c.args.chunk)

pub returns-in-Some-clause-slots : goal.returns-in-Some-clause-slots
returns-in-Some-clause-slots c =
    λ slot. rw (← c.self.view_is) (rw c.slots-in-Some.ensures (held_all c.self.inside.schema.columns c.self.inside.rows.rows c.args.chunk slot c.in-Some.rows.now c.self.invariant.again (c.in-Some.ensures.slots slot)))
