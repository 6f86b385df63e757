-- The body stands behind its head.
use Rattle.std.proofs.Common.{◌≡◌, ◌≤◌, ◌+◌, ℕ, List, [], ◌++◌, length, subst, arith, length-append}
use Rattle.http_replies.specs.Wire.{head, answer}
use Rattle.http_replies.specs.inner.Rooms.{Holds}
use Rattle.http_replies.proofs.answer.put_answer.Goals as goal

pub returns : goal.returns
returns c bytes holds few =
    let whole : length (answer c.args.status bytes) ≡ length (head c.args.status (length bytes)) + length bytes = length-append (head c.args.status (length bytes)) bytes in
    let within : length bytes ≤ 512 = omega (arith, whole, few) in
    let counted : Holds (head c.args.status (length bytes) ++ c.content.result.now) c.add.new.self =
    subst (λ (n : ℕ). Holds (head c.args.status n ++ c.content.result.now) c.add.new.self) (holds within).0 (c.add.ensures.adds (head c.args.status c.args.body.now.filled) (c.add_head.ensures.adds [] c.new-answer.ensures)) in
    subst (λ (xs : List ℕ). Holds (head c.args.status (length bytes) ++ xs) c.add.new.self) (c.content.ensures bytes holds within) counted few
