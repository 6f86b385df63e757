use Rattle.std.proofs.Common.{◌≡◌, ◌≤◌, ℕ, [], length, take, subst, sym}
use Rattle.http_replies.specs.Bodies.{bad_body}
use Rattle.http_replies.specs.Wire.{answer}
use Rattle.http_replies.proofs.LengthLaws.{bad_short}
use Rattle.http_replies.proofs.answer.bad_bytes.Goals as goal

pub returns-clause-fits : goal.returns-clause-fits
returns-clause-fits c = bad_short c.args.status c.requires.bad

pub returns-clause-count : goal.returns-clause-count
returns-clause-count c =
    let gives = rw c.in-Ok.ensures.1 at c.put_answer.ensures in
    (gives (bad_body c.args.status) (c.add_bad_body.ensures.adds [] c.new-body.ensures) (bad_short c.args.status c.requires.bad)).0

pub returns-clause-bytes : goal.returns-clause-bytes
returns-clause-bytes c =
    let bytes = bad_body c.args.status in
    let fits = subst (λ (n : ℕ). length (answer n bytes) ≤ 512) (sym c.in-Ok.ensures.1) (bad_short c.args.status c.requires.bad) in
    subst (λ (n : ℕ). take (length (answer n bytes)) c.put_answer.new.room ≡ answer n bytes) c.in-Ok.ensures.1 (c.put_answer.ensures bytes (c.add_bad_body.ensures.adds [] c.new-body.ensures) fits).1
