use Rattle.std.proofs.Common.{◌≡◌, ◌≤◌, ℕ, [], length, take, subst, sym}
use Rattle.http_replies.specs.Bodies.{body}
use Rattle.http_replies.specs.Statuses.{reply_status}
use Rattle.http_replies.specs.Wire.{answer}
use Rattle.http_replies.proofs.LengthLaws.{answer_short}
use Rattle.http_replies.proofs.answer.small_reply.Goals as goal

pub returns-clause-fits : goal.returns-clause-fits
returns-clause-fits c =
    let few = rw c.reply_status.ensures.status at c.reply_status.ensures.phrased.three_digits in
    answer_short (reply_status c.args.reply.now) (body c.args.reply.now) few c.body_short.ensures

pub returns-clause-count : goal.returns-clause-count
returns-clause-count c =
    let few = rw c.reply_status.ensures.status at c.reply_status.ensures.phrased.three_digits in
    let gives = rw c.reply_status.ensures.status at c.put_answer.ensures in
    (gives (body c.args.reply.now) (c.add_body.ensures.adds [] c.new-body.ensures) (answer_short (reply_status c.args.reply.now) (body c.args.reply.now) few c.body_short.ensures)).0

pub returns-clause-bytes : goal.returns-clause-bytes
returns-clause-bytes c =
    let bytes = body c.args.reply.now in
    let few = rw c.reply_status.ensures.status at c.reply_status.ensures.phrased.three_digits in
    let fits = subst (λ (n : ℕ). length (answer n bytes) ≤ 512) (sym c.reply_status.ensures.status) (answer_short (reply_status c.args.reply.now) bytes few c.body_short.ensures) in
    subst (λ (n : ℕ). take (length (answer n bytes)) c.put_answer.new.room ≡ answer n bytes) c.reply_status.ensures.status (c.put_answer.ensures bytes (c.add_body.ensures.adds [] c.new-body.ensures) fits).1
