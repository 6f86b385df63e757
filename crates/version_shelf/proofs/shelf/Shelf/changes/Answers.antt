use Rattle.std.proofs.Common.{rules, ◌≡◌, ◌+◌, ◌<◌, length, get_or, None, refl}
use Rattle.table_changes.specs.Turning.{Turns}
use Rattle.version_shelf.specs.OnShelf.{at_place}
use Rattle.version_shelf.specs.Records.{table_in}
use Rattle.version_shelf.proofs.RecordLaws.{places-turn, places-turned, short-append}
use Rattle.version_shelf.proofs.shelf.Shelf.changes.Goals as goal

pub loop-at-preserved : goal.loop-at-preserved
loop-at-preserved c =
    let olds = c.args.older.now.places in
    let news = c.args.newer.now.places in
    let old_long : length olds ≡ 64 = search rules in
    let new_long : length news ≡ 64 = search rules in
    let less : c.loop-at.at < 64 = search rules in
    let more : Turns (c.loop-at.at + 1) (table_in (at_place c.args.self.now (get_or olds c.loop-at.at None))) (table_in (at_place c.args.self.now (get_or news c.loop-at.at None))) c.in_ok-more.more = rw (c.as_slice.ensures.value, c.self.view_is) at c.in_ok-more.ensures.turns in
    rw (c.in_ok-append.ensures.items, c.into_vec.ensures) (record {
      turns = places-turn c.args.self.now olds news c.loop-at.at c.loop-at.changes.items c.in_ok-more.more (rw old_long less) (rw (old_long, new_long) refl) c.loop-at.invariant.turns more;
      short = short-append c.loop-at.changes.items c.in_ok-more.more c.loop-at.invariant.short c.in_ok-more.ensures.short;
    })

pub returns-clause-turns : goal.returns-clause-turns
returns-clause-turns c =
    let old_long : length c.args.older.now.places ≡ 64 = search rules in
    let new_long : length c.args.newer.now.places ≡ 64 = search rules in
    rw c.from_vec.ensures (places-turned c.args.self.now c.args.older.now.places c.args.newer.now.places c.loop-at.at c.loop-at.changes.items (search rules) (rw (old_long, new_long) refl) c.loop-at.invariant.turns)
