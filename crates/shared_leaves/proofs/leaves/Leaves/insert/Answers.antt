use Rattle.std.proofs.Common.{◌<◌, ◌≤◌, [], take, length, sym, ap, ◌∙◌, arith, length-set, is_ok}
use Rattle.std.specs.List.{insert}
use Rattle.std.proofs.lemmas.List.{get_or_read, take-set-le}
use Rattle.std.proofs.lemmas.List.Edits.{length-insert}
use Rattle.shared_leaves.specs.inner.Joined.{joined, ends_of}
use Rattle.shared_leaves.proofs.JoinedLaws.{inserted, length-joined_set, length_inserted}
use Rattle.shared_leaves.proofs.EndsLaws.{length-ends, take-ends}
use Rattle.shared_leaves.proofs.leaves.Leaves.insert.Goals as goal

pub count_ends-requires-clause-front : goal.count_ends-requires-clause-front
count_ends-requires-clause-front g c =
    let xss = c.self.inside.leaves.items in
    let yss = c.make_room.new.leaves.items in
    let gap = c.find_gap-gap.result.0 in
    ap (take gap) (c.reserve.ensures.items ∙ c.self.invariant.1) ∙ take-ends 0 xss gap
    ∙ ap (λ l. ends_of 0 l) (
    sym c.make_room.ensures.front
    ∙ sym (take-set-le gap yss c.in_ok-leaf.leaf c.insert-inserted.new.self c.in_ok-leaf.ensures.later)
    ∙ ap (λ l. take gap l) (sym c.as_slice-3.ensures.value))

pub count_ends-requires-clause-fits : goal.count_ends-requires-clause-fits
count_ends-requires-clause-fits g c =
    let yss = c.make_room.new.leaves.items in
    let leaf = c.in_ok-leaf.leaf in
    let lt : leaf < length yss = omega (arith, c.in_ok-leaf.ensures.leaf) in
    let now = ap length (get_or_read yss leaf c.index_mut.result.now lt c.index_mut.ensures.value []) in
    let within : c.in_ok-leaf.at ≤ length c.index_mut.result.now = omega (arith, now, c.in_ok-leaf.ensures.place) in
    let more = length_inserted (is_ok c.insert-inserted.result) c.index_mut.result.now c.insert-inserted.new.self c.in_ok-leaf.at c.args.item within c.insert-inserted.ensures in
    let whole = length-joined_set yss leaf c.insert-inserted.new.self lt in
    let same = ap length c.in_ok-leaf.ensures.same in
    let n = ap (λ l. length (joined l)) c.as_slice-3.ensures.value in
    omega (arith, n, whole, more, now, same, c.self.invariant.0)

pub count_ends-requires-clause-room : goal.count_ends-requires-clause-room
count_ends-requires-clause-room g c =
    let n = ap length c.self.invariant.1 ∙ length-ends 0 c.self.inside.leaves.items in
    let m = ap length c.as_slice-3.ensures.value ∙ length-set c.make_room.new.leaves.items c.in_ok-leaf.leaf c.insert-inserted.new.self in
    let e = ap length c.reserve.ensures.items in
    omega (arith, n, m, e, c.make_room.ensures.count, c.in_ok-reserve.ensures.ok)

pub invariant_of-self-2 : goal.invariant_of-self-2
invariant_of-self-2 g c =
    let yss = c.make_room.new.leaves.items in
    let lt : c.in_ok-leaf.leaf < length yss = omega (arith, c.in_ok-leaf.ensures.leaf) in
    let item = c.in_ok-leaf.ensures.item ∙ (rw c.as_slice.ensures.value at c.find_gap-gap.ensures.item) in
    let whole = inserted c.self.inside.leaves.items yss c.in_ok-leaf.leaf c.in_ok-leaf.at c.args.at c.args.item c.index_mut.result.now c.insert-inserted.new.self lt c.in_ok-leaf.ensures.place item c.index_mut.ensures.value (c.in_ok-inserted.ensures {u = tt}) c.in_ok-leaf.ensures.same in
    let n = ap length whole in
    let le : c.args.at ≤ length (joined c.self.inside.leaves.items) = rw c.self.view_is c.requires in
    (omega (arith, n, length-insert (joined c.self.inside.leaves.items) c.args.at c.args.item le, c.self.invariant.0), rw c.as_slice-3.ensures.value at c.count_ends.ensures)

pub returns : goal.returns
returns g c =
    let yss = c.make_room.new.leaves.items in
    let lt : c.in_ok-leaf.leaf < length yss = omega (arith, c.in_ok-leaf.ensures.leaf) in
    let item = c.in_ok-leaf.ensures.item ∙ (rw c.as_slice.ensures.value at c.find_gap-gap.ensures.item) in
    let whole = inserted c.self.inside.leaves.items yss c.in_ok-leaf.leaf c.in_ok-leaf.at c.args.at c.args.item c.index_mut.result.now c.insert-inserted.new.self lt c.in_ok-leaf.ensures.place item c.index_mut.ensures.value (c.in_ok-inserted.ensures {u = tt}) c.in_ok-leaf.ensures.same in
    whole ∙ ap (λ l. insert l c.args.at c.args.item) c.self.view_is
