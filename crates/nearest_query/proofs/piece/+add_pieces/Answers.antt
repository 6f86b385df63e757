use Rattle.std.proofs.Common.{◌≡◌, ◌∙◌, ap, ℕ, suc, ◌-◌, arith}
use Rattle.std.proofs.lemmas.Result.{IfOk-weaker}
use Rattle.nearest_query.specs.inner.Pieces.{parted}
use Rattle.nearest_query.proofs.JoiningLaws.{parted_step, pieces_step}
use Rattle.nearest_query.proofs.piece.+add_pieces.Goals as goal

pub returns-clause-added : goal.returns-clause-added
returns-clause-added n c =
    let more : c.args.count ≡ suc (c.args.count - 1) = omega (arith, c.if-count-eq0.false) in
    IfOk-weaker c.add_pieces.result _ _ (λ x h. h ∙ pieces_step c.args.table.now.table c.args.plan.now c.args.target.now c.args.k c.args.pieces.now.items c.push.new.self.items c.in_ok-piece.piece c.args.count (c.args.count - 1) c.args.chunks.now c.split_at.result.0.now c.split_at.result.1.now more c.split_at.ensures.front c.split_at.ensures.back c.in_ok-piece.ensures.piece c.in_ok-push.ensures.items) c.add_pieces.ensures.added

pub returns-clause-pieces : goal.returns-clause-pieces
returns-clause-pieces n c =
    let more : c.args.count ≡ suc (c.args.count - 1) = omega (arith, c.if-count-eq0.false) in
    IfOk-weaker c.add_pieces.result _ _ (λ x h. h ∙ ap (λ (w : ℕ). parted w (c.args.count - 1)) c.in_ok-piece.ensures.pieces ∙ parted_step c.args.steps.now.pieces c.args.count (c.args.count - 1) more) c.add_pieces.ensures.pieces
