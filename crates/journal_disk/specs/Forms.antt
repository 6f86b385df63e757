-- What the disk in memory holds.
use Rattle.std.specs.Prelude.{◌≡◌, ℕ, ◌+◌, ◌≤◌, ◌^◌, List, length, Option}
use Rattle.journal_disk.specs.Disk.{Only}
use Rattle.journal_disk.specs.declared.memory.MemoryDisk.{MemoryDisk}
use Rattle.journal_disk.specs.History.{Images, Since, events_of}

-- what a read gives
abbrev pub disk_bytes : MemoryDisk → List ℕ
disk_bytes disk = disk.bytes.items

-- the files that a stop now may leave
abbrev pub disk_leaves : MemoryDisk → List ℕ → Type 0
disk_leaves disk c = Images disk.base (events_of disk.events.items) disk.log.items c

-- the files that a stop since a moment may have left
abbrev pub disk_left : MemoryDisk → ℕ → List ℕ → Type 0
disk_left disk t c = Since t disk.base (events_of disk.events.items) disk.log.items c

-- how many writes and syncs there were
abbrev pub disk_moment : MemoryDisk → ℕ
disk_moment disk = length disk.events.items

-- how many calls failed
abbrev pub disk_faults : MemoryDisk → ℕ
disk_faults disk = disk.faults.count

-- the numbers of the calls that are to fail
abbrev pub disk_fails : MemoryDisk → List ℕ
disk_fails disk = disk.faults.fails

-- how many calls there were
abbrev pub disk_calls : MemoryDisk → ℕ
disk_calls disk = disk.faults.calls

-- the number of the call from which on every call fails, if there is one
abbrev pub disk_stop : MemoryDisk → Option ℕ
disk_stop disk = disk.faults.stop

-- how long the file may get, how many writes and syncs it records, and how many bytes they write in all
abbrev pub disk_room : MemoryDisk → ℕ
disk_room disk = disk.room

-- nothing waits for a sync
abbrev pub is_quiet : MemoryDisk → Type 0
is_quiet disk = Only disk.bytes.items (disk_leaves disk)
