use Rattle.std.proofs.Common.{◌≡◌, List, inl, refl, sym, ap, ◌∙◌, subst}
use Rattle.std.specs.List.{remove}
use Rattle.row_model.specs.declared.request.Reply.{Reply}
use Rattle.row_model.specs.declared.request.Reply.TheVariants.{Done}
use Rattle.row_model.specs.declared.state.CursorRows.{CursorRows}
use Rattle.row_model.specs.declared.state.Session.{Session}
use Rattle.row_model.specs.declared.state.State.{State}
use Rattle.plain_engine.specs.inner.Machines.{session_at, state_of}
use Rattle.plain_engine.specs.inner.Places.{IsCursorAt}
use Rattle.plain_engine.proofs.SessionLaws.{changed, closed-is, session-is}
use Rattle.plain_engine.proofs.machine.Machine.close_cursor.Goals as goal

pub returns : goal.returns
returns c =
    let old = c.args.self.now in
    let here : session_at old c.args.at ≡ c.index.result.now = session-is old.sessions.items c.args.at c.index.result.now c.requires.at.within c.index.ensures in
    let cursors : c.as_slice.result.now ≡ (session_at old c.args.at).cursors = c.as_slice.ensures ∙ ap (λ (s : Session). s.cursors) (sym here) in
    let found : IsCursorAt c.args.number (session_at old c.args.at).cursors c.in-Some.place = subst (λ (cs : List CursorRows). IsCursorAt c.args.number cs c.in-Some.place) cursors c.in-Some.ensures in
    let f : Session → Session = λ s. record s { cursors = remove s.cursors c.in-Some.place } in
    let new = changed f old c.args.at c.index_mut.result.now (record c.index_mut.result.now { cursors = c.remove.new.self }) c.requires.at c.index_mut.ensures.value
    (ap (λ cs. record c.index_mut.result.now { cursors = cs }) c.remove.ensures) refl in
    inl (closed-is (state_of old) (session_at old c.args.at) c.args.number c.in-Some.place found ∙ ap (λ (s : State). (let reply : Reply = Done in reply, s)) new)
