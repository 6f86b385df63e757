use Rattle.shared_leaves.proofs.EditLaws.{edited-seen}
use Rattle.std.proofs.Common.{◌≡◌, ◌<◌, get_or, set, length, ◌∙◌, rules}
use Rattle.shared_leaves.proofs.leaf.Leaf.edit.Goals as goal

pub returns-in_ok-edit-in-Some : goal.returns-in_ok-edit-in-Some
returns-in_ok-edit-in-Some g c =
    let same : c.in-Some.items.now.items ≡ c.args.self.now = search rules in
    let within : c.args.at < length c.in-Some.items.now.items = search rules in
    let there : c.index_mut.result.now ≡ get_or c.in-Some.items.now.items c.args.at c.index_mut.result.now = search rules in
    edited-seen _ c.in-Some.items.now.items c.args.self.now c.args.at c.index_mut.result.now c.edit.new.item same within there (c.in_ok-edit-in-Some.ensures {u = tt})

pub returns-in_ok-self-inside-in-None : goal.returns-in_ok-self-inside-in-None
returns-in_ok-self-inside-in-None g c =
    let same : c.in_ok-items-in-None.items.items ≡ c.args.self.now = search rules in
    let within : c.args.at < length c.in_ok-items-in-None.items.items = search rules in
    let there : c.index_mut-in-None.result.now ≡ get_or c.in_ok-items-in-None.items.items c.args.at c.index_mut-in-None.result.now = search rules in
    let made : c.in_ok-self-inside-in-None.field-0.value.items ≡ set c.in_ok-items-in-None.items.items c.args.at c.edit-in-None.new.item = search rules in
    made ∙ edited-seen _ c.in_ok-items-in-None.items.items c.args.self.now c.args.at c.index_mut-in-None.result.now c.edit-in-None.new.item same within there (c.in_ok-edit-in-None.ensures {u = tt})
