use Rattle.std.proofs.Common.{◌≡◌, ◌++◌, ◌∷◌, [], length, take, ◌/◌, rules, arith}
use Rattle.std.proofs.lemmas.List.{length-take}
use Rattle.journal_disk.specs.declared.memory.Event.TheVariants.{Write}
use Rattle.journal_disk.proofs.Replay.{write_torn, either_torn}
use Rattle.journal_disk.proofs.memory.MemoryDiskDisk.write_at.Goals as goal

pub returns-then-has_room-clause-torn : goal.returns-then-has_room-clause-torn
returns-then-has_room-clause-torn c told =
    let old = c.args.self.now in
    either_torn c.write_to.result old.base old.events.items c.write_to.new.events.items old.log.items c.write_to.new.log.items old.bytes.items c.args.at (take (length c.args.bytes.now / 2) c.args.bytes.now) (length c.args.bytes.now) old.same (c.requires.start told) (omega (arith, length-take (length c.args.bytes.now / 2) c.args.bytes.now))
    c.write_to.ensures.events c.write_to.ensures.log

pub returns-clause-torn : goal.returns-clause-torn
returns-clause-torn c =
    let old = c.args.self.now in
    let is : c.write_to-2.new.events.items ≡ old.events.items ++ Write c.args.at (length c.args.bytes.now) ∷ [] = search rules in
    let logged : c.write_to-2.new.log.items ≡ old.log.items ++ c.args.bytes.now = search rules in
    λ told. write_torn old.base old.events.items c.write_to-2.new.events.items old.log.items c.write_to-2.new.log.items old.bytes.items c.args.at c.args.bytes.now (length c.args.bytes.now) old.same (omega arith) (omega arith) is logged
