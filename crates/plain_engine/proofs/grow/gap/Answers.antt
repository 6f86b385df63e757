use Rattle.std.proofs.Common.{sym, ap, ◌∙◌}
use Rattle.row_model.specs.Change.{assigned, spent}
use Rattle.plain_engine.proofs.TopLaws.{assigned_last}
use Rattle.plain_engine.proofs.grow.gap.Goals as goal

pub returns-in-None-clause-place : goal.returns-in-None-clause-place
returns-in-None-clause-place c = λ left row same.
    assigned_last c.args.top.now row c.args.rows.now c.requires.topped
    (ap (spent c.args.top.now) (sym c.in-None.is) ∙ left) (same ∙ ap (assigned c.args.top.now) c.in-None.is)
