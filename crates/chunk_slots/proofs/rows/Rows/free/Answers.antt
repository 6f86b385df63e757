use Rattle.std.proofs.Common.{ap, ◌∙◌}
use Rattle.chunk_slots.specs.inner.Rows.{rows_of}
use Rattle.chunk_slots.proofs.RowLaws.{all_free_rows}
use Rattle.chunk_slots.proofs.rows.Rows.free.Goals as goal

pub returns : goal.returns
returns c =
    ap (λ bits. rows_of bits c.in_ok-zero_rowids.field-0) (c.in_ok-with_size.ensures {u = tt})
    ∙ all_free_rows c.args.size c.in_ok-zero_rowids.field-0 (c.in_ok-zero_rowids.ensures {u = tt})
