use Rattle.std.proofs.Common.{length, ◌<◌, ◌+◌, ◌^◌, take, ◌-◌, ◌≡◌, ◌≤◌, List, ℕ, IsTrue}
use Rattle.journal_disk.specs.Disk.{Follows, Torn}
use Rattle.journal_disk.specs.History.{put}
use Rattle.journal_writes.specs.Moments.{LeavesOnly}
use Rattle.journal_writes.proofs.transfers.write_all.Given as goal

abbrev pub invariant-loop-done : goal.invariant-loop-done
invariant-loop-done g l = record {
  within : l.done ≤ length l.bytes;
  end : 0 < l.done → l.at + l.done ≤ 2 ^ 40;
  tells : g.D.Disk.tells l.disk ≡ g.D.Disk.tells l.initial.disk;
  written : IsTrue (g.D.Disk.tells l.initial.disk) → g.D.Disk.reads l.disk ≡ put (g.D.Disk.reads l.initial.disk) l.at (take l.done l.bytes);
  torn : IsTrue (g.D.Disk.tells l.initial.disk) → Follows (Torn l.at (length l.bytes)) (g.D.Disk.may_leave l.initial.disk) (g.D.Disk.may_leave l.disk);
  time : IsTrue (g.D.Disk.tells l.initial.disk) → LeavesOnly g.D.Disk.moment g.D.Disk.left_since l.initial.disk l.disk (λ c. (d : List ℕ) × g.D.Disk.may_leave l.initial.disk d × Torn l.at (length l.bytes) d c);
  clock : g.D.Disk.moment l.initial.disk ≤ g.D.Disk.moment l.disk;
  count : g.D.Disk.faults l.initial.disk ≤ g.D.Disk.faults l.disk;
}

abbrev pub decreases-loop-done : goal.decreases-loop-done
decreases-loop-done g l = length l.bytes - l.done
