use Rattle.std.proofs.Common.{[], get_or, ap, ◌∙◌}
use Rattle.chunk_slots.proofs.ChunkLaws.{column_there, column_within, vector_seen}
use Rattle.chunk_slots.proofs.chunk.Chunk.vector.Goals as goal

pub get-requires : goal.get-requires
get-requires c =
    column_there c.args.slot c.from.result c.args.column c.self.inside.columns.items c.index.result.now c.self.inside.rows c.args.self.now
    c.self.invariant c.from.ensures c.requires.column c.self.view_is c.requires.used c.index.ensures

pub returns-clause-vector : goal.returns-clause-vector
returns-clause-vector c =
    let columns = c.self.inside.columns.items in
    let d = c.index.result.now in
    let i = c.args.column in
    let there = c.index.ensures ∙ ap (λ n. get_or columns n d) c.from.ensures in
    c.get.ensures.vector ∙ ap (λ column. get_or column.vectors c.args.slot []) there
    ∙ vector_seen c.args.slot i columns d c.self.inside.rows c.args.self.now (column_within columns c.self.inside.rows c.args.self.now i c.self.view_is c.requires.column) c.self.view_is c.requires.used
