use Rattle.std.proofs.Common.{◌≡◌, ◌≤◌, ◌<◌, ◌+◌, ◌-◌, IsTrue, length, take, Err}
use Rattle.shadow_keeper.specs.Keeping.{tables_of}
use Rattle.journal_format.specs.Fronts.{Leads}
use Rattle.journal_format.specs.Reading.{commits_of}
use Rattle.journal_disk.specs.Disk.{Within}
use Rattle.journal_writes.specs.Moments.{LeavesOnly}
use Rattle.journal_replay.proofs.follow.follow.Given as goal

abbrev pub invariant-loop-wanted : goal.invariant-loop-wanted
invariant-loop-wanted g l = record {
  within : l.gate < l.len;
  number : l.number ≤ l.gate;
  wanted : 1 ≤ l.wanted;
  leads : IsTrue (g.D.Disk.tells l.fn.disk) → Leads (take l.gate (g.D.Disk.reads l.fn.disk)) l.number (tables_of l.tables.entries);
  short : IsTrue (g.D.Disk.tells l.fn.disk) → l.len - l.gate < l.wanted → commits_of (g.D.Disk.reads l.fn.disk) ≡ Err l.gate;
  tells : g.D.Disk.tells l.disk ≡ g.D.Disk.tells l.fn.disk;
  reads : g.D.Disk.reads l.disk ≡ g.D.Disk.reads l.fn.disk;
  kept : Within (g.D.Disk.may_leave l.disk) (g.D.Disk.may_leave l.fn.disk);
  time : LeavesOnly g.D.Disk.moment g.D.Disk.left_since l.fn.disk l.disk (g.D.Disk.may_leave l.fn.disk);
  count : g.D.Disk.faults l.fn.disk ≤ g.D.Disk.faults l.disk;
}

abbrev pub decreases-loop-wanted : goal.decreases-loop-wanted
decreases-loop-wanted g l = l.len + 1 - (l.gate + l.wanted)
