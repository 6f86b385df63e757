use Rattle.std.proofs.Common.{sym, subst, ◌≤◌}
use Rattle.vec_base.specs.declared.limits.TheConstants.{MOST_CHUNK_SIZE}
use Rattle.row_model.specs.declared.schema.Schema.{Schema}
use Rattle.table_version.proofs.SchemaShape.{chunk-size}
use Rattle.nearest_query.proofs.piece.make_piece.Goals as goal

pub with_size-requires-clause-short : goal.with_size-requires-clause-short
with_size-requires-clause-short c =
    subst (λ (s : Schema). s.chunk_size ≤ MOST_CHUNK_SIZE) (sym c.schema.ensures) (chunk-size c.args.table.now.table.schema c.requires.ready.placed.valid.schema).most
