use Rattle.vec_shell.proofs.ProgressLaws.{piece_blank, piece_answered}
use Rattle.vec_shell.proofs.shell.Shell.answer_piece.Goals as goal

pub returns-then-is_blank : goal.returns-then-is_blank
returns-then-is_blank g c = λ start texts piece so_far.
    piece_blank _ start texts piece _ c.begin.new.self so_far (c.is_blank.ensures.blank piece so_far.holds c.if-is_blank.true) c.begin.ensures

pub returns : goal.returns
returns g c = λ start texts piece so_far.
    piece_answered _ c.write_reply.result start texts piece c.reply_to-reply.result _ _ so_far
    (c.is_blank.ensures.text piece so_far.holds c.if-is_blank.false)
    (c.reply_to-reply.ensures piece so_far.holds)
    c.count.ensures c.begin-2.ensures c.write_reply.ensures
