use Rattle.std.proofs.Common.{◌-◌}
use Rattle.version_shelf.proofs.SlotLaws.{alike-follow, alike-keeps, put-follow-alike, put-keeps, put-on-alike}
use Rattle.version_shelf.proofs.shelf.Shelf.put_from.Goals as goal

pub invariant_of-self : goal.invariant_of-self
invariant_of-self c = alike-follow c.self.inside.slots.items c.room.new.slots.items c.room.ensures.alike c.self.invariant

pub invariant_of-self-2 : goal.invariant_of-self-2
invariant_of-self-2 c =
    let from = rw (← c.self.view_is) at c.requires.origin in
    rw c.set.ensures (put-follow-alike c.self.inside.slots.items c.room.new.slots.items c.in_ok-place.place _ c.room.ensures.alike c.self.invariant c.in_ok-place.ensures.empty c.in_ok-place.ensures.inside from)

pub returns-clause-kept : goal.returns-clause-kept
returns-clause-kept c = rw c.set.ensures (put-keeps c.args.self.now c.self.inside.slots.items c.room.new.slots.items c.in_ok-place.place _ c.self.view_is c.room.ensures.alike c.in_ok-place.ensures.empty)

pub returns-clause-on : goal.returns-clause-on
returns-clause-on c = rw c.set.ensures (put-on-alike c.args.self.now c.self.inside.slots.items c.room.new.slots.items c.in_ok-place.place (c.args.number - 1) _ c.args.held.now.places c.self.view_is c.room.ensures.alike c.in_ok-place.ensures.empty c.in_ok-place.ensures.inside c.requires.held).0

pub returns-clause-shown : goal.returns-clause-shown
returns-clause-shown c = rw c.set.ensures (put-on-alike c.args.self.now c.self.inside.slots.items c.room.new.slots.items c.in_ok-place.place (c.args.number - 1) _ c.args.held.now.places c.self.view_is c.room.ensures.alike c.in_ok-place.ensures.empty c.in_ok-place.ensures.inside c.requires.held).1

pub returns-in_err-place-clause-kept : goal.returns-in_err-place-clause-kept
returns-in_err-place-clause-kept c = alike-keeps c.args.self.now c.self.inside.slots.items c.room.new.slots.items c.self.view_is c.room.ensures.alike
