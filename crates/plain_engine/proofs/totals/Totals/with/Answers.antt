use Rattle.std.proofs.Common.{ℕ, ◌+◌, ap, ◌∙◌}
use Rattle.plain_engine.specs.inner.ByteTotals.{capped}
use Rattle.plain_engine.proofs.TotalLaws.{total_with}
use Rattle.plain_engine.proofs.totals.Totals.with.Goals as goal

pub returns : goal.returns
returns c = λ other rows is.
    total_with other rows c.args.row.now c.args.self c.saturating_add.result c.saturating_add-2.result is
    (c.saturating_add.ensures ∙ ap (λ (n : ℕ). capped (c.args.self.vectors + n)) c.row_vector_bytes.ensures)
    (c.saturating_add-2.ensures ∙ ap (λ (n : ℕ). capped (c.args.self.sides + n)) c.row_side_bytes.ensures)
