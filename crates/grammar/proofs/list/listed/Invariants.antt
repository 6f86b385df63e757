use Rattle.std.proofs.Common.{◌≡◌, ◌<◌, true, length}
use Rattle.std.specs.List.{list_all}
use Rattle.grammar.specs.Grammar.{many, a_token, parts_with, ◌▸◌}
use Rattle.grammar.specs.inner.ReaderResults.{rest_of}
use Rattle.grammar.specs.inner.Reading.{read}
use Rattle.grammar.proofs.Loops.{with_front}
use Rattle.grammar.proofs.list.listed.Given as goal

-- the items so far and what reading goes on to give are what reading gave at the start
abbrev pub invariant-loop-alloc : goal.invariant-loop-alloc
invariant-loop-alloc g l =
    (with_front l.items (read (many (a_token g.I.Item.between ▸ g.I.Item.part)) (rest_of l.reader)) ≡ read (parts_with g.I.Item.between g.I.Item.part) (rest_of l.fn.reader))
    × (list_all g.I.Item.well_formed l.items ≡ true)
    × (0 < length l.items)

abbrev pub decreases-loop-alloc : goal.decreases-loop-alloc
decreases-loop-alloc g l = length (rest_of l.reader)
