-- The lines of the rows before the next one are written.
use Rattle.std.proofs.Common.{take}
use Rattle.std.specs.List.{flat_map}
use Rattle.vec_shell.specs.Lines.{row_line}
use Rattle.vec_shell.proofs.lines.put_row_lines.Given as goal

abbrev pub invariant-loop-row : goal.invariant-loop-row
invariant-loop-row g l = g.W.Takes.adds (flat_map row_line (take l.row-index l.rows)) l.fn.to l.to
