use Rattle.std.proofs.Common.{◌≡◌, take}
use Rattle.row_model.specs.Change.{elsewhere}
use Rattle.plain_engine.specs.inner.ByteTotals.{capped}
use Rattle.plain_engine.proofs.totals.Totals.elsewhere.Given as goal

abbrev pub invariant-loop-named : goal.invariant-loop-named
invariant-loop-named l =
    (l.totals.vectors ≡ capped (elsewhere l.name (record { tables = take l.named-index l.tables })).vectors)
    × (l.totals.sides ≡ capped (elsewhere l.name (record { tables = take l.named-index l.tables })).sides)
