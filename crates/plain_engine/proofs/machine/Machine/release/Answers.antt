use Rattle.std.proofs.Common.{◌≡◌, ◌&&◌, false, List, inl, refl, sym, ap, ◌∙◌, subst}
use Rattle.std.specs.Prelude.{◌==◌}
use Rattle.row_model.specs.declared.request.Reply.{Reply}
use Rattle.row_model.specs.declared.request.Reply.TheVariants.{Done}
use Rattle.row_model.specs.declared.state.Mark.{Mark}
use Rattle.row_model.specs.declared.state.Session.{Session}
use Rattle.row_model.specs.declared.state.State.{State}
use Rattle.plain_engine.specs.inner.Machines.{session_at, state_of}
use Rattle.plain_engine.specs.inner.Places.{IsMarkAt}
use Rattle.plain_engine.specs.inner.SessionChanges.{cut_to}
use Rattle.plain_engine.proofs.SessionLaws.{changed, released-cut, session-is}
use Rattle.plain_engine.proofs.machine.Machine.release.Goals as goal

pub returns : goal.returns
returns c =
    let old = c.args.self.now in
    let here : session_at old c.args.at ≡ c.index.result.now = session-is old.sessions.items c.args.at c.index.result.now c.requires.at.within c.index.ensures in
    let again : session_at old c.args.at ≡ c.index-2.result.now = session-is old.sessions.items c.args.at c.index-2.result.now c.requires.at.within c.index-2.ensures in
    let marks : c.as_slice.result.now ≡ (session_at old c.args.at).marks = c.as_slice.ensures ∙ ap (λ (s : Session). s.marks) (sym here) in
    let found : IsMarkAt c.args.name.now (session_at old c.args.at).marks c.in-Some.place = subst (λ (ms : List Mark). IsMarkAt c.args.name.now ms c.in-Some.place) marks c.in-Some.ensures in
    let other : ((c.in-Some.place == 0) && (session_at old c.args.at).by_savepoint) ≡ false =
    ap (λ (s : Session). (c.in-Some.place == 0) && s.by_savepoint) again ∙ c.if-place-index.false in
    let new = changed (cut_to c.in-Some.place) old c.args.at c.index_mut.result.now c.cut.new.session c.requires.at c.index_mut.ensures.value c.cut.ensures refl in
    inl (released-cut c.args.name.now (state_of old) (session_at old c.args.at) c.in-Some.place found other ∙ ap (λ (s : State). (let reply : Reply = Done in reply, s)) new)
