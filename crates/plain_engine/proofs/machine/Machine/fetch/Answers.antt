use Rattle.std.proofs.Common.{◌≡◌, Bool, List, length, take, drop, get_or, inl, refl, sym, ap, ap₂, ◌∙◌, subst, rules}
use Rattle.std.specs.Prelude.{◌==◌, slice_set}
use Rattle.row_model.specs.declared.request.Reply.{Reply}
use Rattle.row_model.specs.declared.request.Reply.TheVariants.{Page}
use Rattle.row_model.specs.declared.state.CursorRows.{CursorRows}
use Rattle.row_model.specs.declared.state.Session.{Session}
use Rattle.row_model.specs.declared.state.State.{State}
use Rattle.plain_engine.specs.inner.Machines.{session_at, state_of}
use Rattle.plain_engine.specs.inner.Places.{IsCursorAt}
use Rattle.plain_engine.proofs.SessionLaws.{changed, fetched-is, session-is}
use Rattle.plain_engine.proofs.machine.Machine.fetch.Goals as goal

pub returns : goal.returns
returns c =
    let old = c.args.self.now in
    let here : session_at old c.args.at ≡ c.index.result.now = session-is old.sessions.items c.args.at c.index.result.now c.requires.at.within c.index.ensures in
    let cursors : c.as_slice-cursors.result.now ≡ (session_at old c.args.at).cursors = c.as_slice-cursors.ensures ∙ ap (λ (s : Session). s.cursors) (sym here) in
    let found : IsCursorAt c.args.number (session_at old c.args.at).cursors c.in-Some.place = subst (λ (cs : List CursorRows). IsCursorAt c.args.number cs c.in-Some.place) cursors c.in-Some.ensures in
    let row : CursorRows = c.index-cursors-place.result in
    let new : CursorRows = record { number = c.args.number; rows = c.in-Ok.field-0.left } in
    let f : Session → Session = λ s. record s { cursors = slice_set s.cursors c.in-Some.place new } in
    let step = changed f old c.args.at c.index_mut.result.now (record c.index_mut.result.now { cursors = c.set.new.self }) c.requires.at c.index_mut.ensures.value
    (ap (λ cs. record c.index_mut.result.now { cursors = cs }) c.set.ensures) refl in
    let pages : c.in-Ok.field-0.page ≡ take c.args.count row.rows = search rules in
    let lefts : c.in-Ok.field-0.left ≡ drop c.args.count row.rows = search rules in
    let read : row ≡ get_or (session_at old c.args.at).cursors c.in-Some.place row = search rules in
    let last : (length c.in-Ok.field-0.left == 0) ≡ c.is_empty-is_last.result = sym c.is_empty-is_last.ensures in
    inl (fetched-is (state_of old) (session_at old c.args.at) c.args.number c.args.count c.in-Some.place row c.in-Ok.field-0.page c.in-Ok.field-0.left found read pages lefts
    ∙ ap₂ (λ (b : Bool) (s : State). (let reply : Reply = Page c.in-Ok.field-0.page b in reply, s)) last step)
