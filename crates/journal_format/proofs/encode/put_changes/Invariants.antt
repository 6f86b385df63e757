use Rattle.std.proofs.Common.{◌≡◌, ◌++◌, take}
use Rattle.std.specs.List.{flat_map, AllByRecursion}
use Rattle.journal_format.specs.Format.{change_bytes, IsWhole}
use Rattle.journal_format.proofs.encode.put_changes.Given as goal

abbrev pub invariant-loop-change : goal.invariant-loop-change
invariant-loop-change l = record {
  made : l.out.items ≡ l.fn.out.items ++ flat_map change_bytes (take l.change-index l.changes);
  whole : AllByRecursion IsWhole (take l.change-index l.changes);
}
