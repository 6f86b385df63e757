use Rattle.std.proofs.Common.{sym}
use Rattle.row_index.specs.inner.Pairs.{IsIndexed}
use Rattle.row_index.proofs.IdLaws.{pair_put, entry_put}
use Rattle.row_index.proofs.index.RowIndex.put.Goals as goal

pub invariant_of-self : goal.invariant_of-self
invariant_of-self c =
    let fresh = rw (sym c.self.view_is) at c.requires.id in
    pair_put c.args.id c.self.inside.entries c.self.inside.ids c.put.new.pairs c.self.invariant fresh c.put.ensures.rise c.put.ensures.others

pub invariant_of-self-2 : goal.invariant_of-self-2
invariant_of-self-2 c =
    let fresh = rw (sym c.self.view_is) at c.requires.id in
    let indexed : IsIndexed c.self.inside.entries c.put.new.pairs =
    pair_put c.args.id c.self.inside.entries c.self.inside.ids c.put.new.pairs c.self.invariant fresh c.put.ensures.rise c.put.ensures.others
    in entry_put c.insert.result c.self.inside.entries c.insert.new.entries _ c.put.new.pairs indexed c.in_ok-id.ensures.pair c.insert.ensures.rise c.insert.ensures.entries
