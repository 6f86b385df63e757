-- A refused byte ends the longest beginning that can go on, and at the end the reader has read the whole text.
use Rattle.std.proofs.Common.{arith}
use Rattle.std.proofs.lemmas.Bool.{MatchBool-at_true, MatchBool-at_false}
use Rattle.vec_literal.proofs.Int8Laws.{reads_next, refused_answers, whole_answers}
use Rattle.vec_literal.proofs.int8.read_exactly.Goals as goal

pub loop-place-preserved : goal.loop-place-preserved
loop-place-preserved c =
    reads_next c.args.text.now c.loop-place.reader c.read.new.self c.loop-place.place c.loop-place-test.true c.loop-place.invariant
    (MatchBool-at_true _ _ c.if-not-branch.false c.in_ok-read.ensures)

pub returns-then-not-branch : goal.returns-then-not-branch
returns-then-not-branch c =
    let none = MatchBool-at_false _ _ c.if-not-branch.true c.in_ok-read.ensures in
    refused_answers c.args.text.now c.loop-place.reader c.loop-place.place c.loop-place-test.true c.loop-place.invariant none

pub returns : goal.returns
returns c = whole_answers c.args.text.now c.loop-place.reader c.loop-place.place c.finish.result (omega arith) c.loop-place.invariant c.finish.ensures
