use Rattle.std.proofs.Common.{◌≡◌, inl, sym, ap, ◌∙◌}
use Rattle.row_model.specs.Step.{wrote}
use Rattle.plain_engine.specs.inner.CatalogChanges.{blocked, create_in}
use Rattle.plain_engine.specs.inner.Machines.{seen_at, session_at, state_of}
use Rattle.plain_engine.proofs.WriteLaws.{created-is}
use Rattle.plain_engine.proofs.machine.Machine.create.Goals as goal

pub returns-in-Ok : goal.returns-in-Ok
returns-in-Ok c =
    let old = c.args.self.now in
    let change : c.in-Ok.change ≡ create_in c.args.name c.args.schema (seen_at old c.args.at) (blocked (state_of old) (session_at old c.args.at)) =
    rw (c.seen.ensures, c.blocked.ensures) at c.in-Ok.ensures in
    inl (created-is c.args.name c.args.schema (state_of old) (session_at old c.args.at) ∙ ap (wrote (state_of old) (session_at old c.args.at)) (sym change) ∙ c.write.ensures)
