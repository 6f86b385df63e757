use Rattle.std.proofs.Common.{length}
use Rattle.table_version.proofs.place_row.+take_values.Given as goal

abbrev pub decreases-take_values : goal.decreases-take_values
decreases-take_values l = length l.columns.now
