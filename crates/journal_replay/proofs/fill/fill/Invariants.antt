use Rattle.std.proofs.Common.{◌≡◌, ◌≤◌, ◌-◌, IsTrue, length, take, drop}
use Rattle.journal_disk.specs.Disk.{Within}
use Rattle.journal_writes.specs.Moments.{LeavesOnly}
use Rattle.journal_replay.proofs.fill.fill.Given as goal

abbrev pub invariant-loop-done : goal.invariant-loop-done
invariant-loop-done g l = record {
  within : l.done ≤ length l.room;
  len : length l.room ≡ length l.initial.room;
  known : IsTrue (g.D.Disk.tells l.initial.disk) → take l.done l.room ≡ take l.done (drop l.place (g.D.Disk.reads l.initial.disk));
  tells : g.D.Disk.tells l.disk ≡ g.D.Disk.tells l.initial.disk;
  reads : g.D.Disk.reads l.disk ≡ g.D.Disk.reads l.initial.disk;
  kept : Within (g.D.Disk.may_leave l.disk) (g.D.Disk.may_leave l.initial.disk);
  time : LeavesOnly g.D.Disk.moment g.D.Disk.left_since l.initial.disk l.disk (g.D.Disk.may_leave l.initial.disk);
  count : g.D.Disk.faults l.initial.disk ≤ g.D.Disk.faults l.disk;
}

abbrev pub decreases-loop-done : goal.decreases-loop-done
decreases-loop-done g l = length l.room - l.done
