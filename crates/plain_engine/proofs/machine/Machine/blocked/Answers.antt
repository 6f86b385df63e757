use Rattle.std.proofs.Common.{◌≡◌, sym, ap, ap₂, ◌∙◌}
use Rattle.std.specs.Option.{option_or}
use Rattle.row_model.specs.declared.state.Session.{Session}
use Rattle.row_model.specs.Machine.{writer_beside}
use Rattle.row_model.specs.RefusalOrder.{first}
use Rattle.row_model.specs.Step.{busy, busy_beside, old_snapshot}
use Rattle.plain_engine.specs.inner.Machines.{session_at, state_of}
use Rattle.plain_engine.proofs.SessionLaws.{session-is}
use Rattle.plain_engine.proofs.TopLaws.{first-append}
use Rattle.plain_engine.proofs.machine.Machine.blocked.Goals as goal

pub returns : goal.returns
returns c =
    let m = c.args.self.now in
    let here : session_at m c.args.at ≡ c.index.result.now = session-is m.sessions.items c.args.at c.index.result.now c.requires c.index.ensures in
    let busy_one : c.busy_beside.result ≡ first (busy_beside (state_of m) (session_at m c.args.at)) =
    rw c.as_slice.ensures.value at c.busy_beside.ensures ∙ ap (λ (s : Session). first (busy (writer_beside s.id m.sessions.items))) (sym here) in
    c.or.ensures ∙ ap₂ option_or busy_one c.old_snapshot.ensures
    ∙ sym (first-append (busy_beside (state_of m) (session_at m c.args.at)) (old_snapshot (state_of m) (session_at m c.args.at).phase))
