use Rattle.std.proofs.Common.{◌≡◌, ◌++◌, ◌∷◌, [], rules}
use Rattle.journal_disk.specs.declared.memory.Event.TheVariants.{Sync}
use Rattle.journal_disk.proofs.Replay.{sync_within}
use Rattle.journal_disk.proofs.memory.MemoryDiskDisk.sync.Goals as goal

pub returns-clause-kept : goal.returns-clause-kept
returns-clause-kept c =
    let is : c.note_sync.new.events.items ≡ c.args.self.now.events.items ++ Sync ∷ [] = search rules in
    sync_within c.args.self.now.base c.args.self.now.events.items c.note_sync.new.events.items c.args.self.now.log.items c.args.self.now.bytes.items c.args.self.now.same is
