use Rattle.std.proofs.Common.{arith}
use Rattle.std.proofs.lemmas.Grind.{common_steps}
use Rattle.vec_base.proofs.Moves.{moved}
use Rattle.http_link.proofs.memory.MemoryLink.give.Goals as goal

pub returns-clause-bytes : goal.returns-clause-bytes
returns-clause-bytes c =
    moved c.args.self.now.bytes c.copy_from_slice.new.self c.args.room.now c.args.self.now.at c.min-count.result
    (grind (arith, common_steps)) (grind (arith, common_steps))
