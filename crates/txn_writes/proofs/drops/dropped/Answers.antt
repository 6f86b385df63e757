use Rattle.std.proofs.Common.{◌∙◌, ◌-◌, None, ap, set, subst, sym}
use Rattle.row_model.specs.declared.request.Reply.{Reply}
use Rattle.row_model.specs.declared.state.State.{State}
use Rattle.txn_sessions.specs.Turns.{TurnsTo}
use Rattle.version_shelf.specs.declared.held.Held.{Held}
use Rattle.txn_sessions.proofs.TurnLaws.{takes_none}
use Rattle.txn_writes.proofs.WriteLaws.{dropped-barred, dropped-made, without-on}
use Rattle.txn_writes.proofs.drops.dropped.Goals as goal

pub returns-in-Some-write_refusal : goal.returns-in-Some-write_refusal
returns-in-Some-write_refusal c =
    let m = c.args.machine.now in
    takes_none m _ _ c.requires.sound (dropped-barred m c.args.at c.args.name.now c.in-Some.number c.in-Some-write_refusal.refusal c.in-Some.ensures.some (sym c.write_refusal.ensures ∙ c.in-Some-write_refusal.is))

pub take_catalog-requires-clause-on : goal.take_catalog-requires-clause-on
take_catalog-requires-clause-on c =
    let places = c.without-held.ensures ∙ ap (λ (h : Held). set h.places (c.in-Some.number - 1) None) c.seen.ensures in
    without-on c.args.machine.now c.args.at c.in-Some.number c.without-held.result c.requires.sound c.requires.at.within places

pub returns : goal.returns
returns c =
    let m = c.args.machine.now in
    let places = c.without-held.ensures ∙ ap (λ (h : Held). set h.places (c.in-Some.number - 1) None) c.seen.ensures in
    subst (λ (a : Reply × State). TurnsTo m a c.take_catalog.result c.take_catalog.new.self)
    (sym (dropped-made m c.args.at c.args.name.now c.in-Some.number c.without-held.result c.in-Some.ensures.some c.requires.valid places (sym c.write_refusal.ensures ∙ c.in_default-write_refusal.is)))
    c.take_catalog.ensures
