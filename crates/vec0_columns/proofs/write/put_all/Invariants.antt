use Rattle.std.proofs.Common.{◌++◌, take, codes}
use Rattle.std.specs.List.{flat_map}
use Rattle.row_model.specs.CanonicalColumns.{column_text}
use Rattle.vec0_columns.proofs.write.put_all.Given as goal

-- the columns before the next one are written
abbrev pub invariant-loop-column : goal.invariant-loop-column
invariant-loop-column g l = g.W.Takes.adds (flat_map (λ column. column_text column ++ codes ", ") (take l.column-index l.columns)) l.fn.to l.to
