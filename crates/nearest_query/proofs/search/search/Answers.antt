use Rattle.std.proofs.Common.{◌∙◌, sym, subst, ℕ, List}
use Rattle.std.specs.List.{AllByRecursion}
use Rattle.nearest_query.specs.Searches.{above_chunks}
use Rattle.nearest_query.specs.inner.Scanning.{IsMetChunk}
use Rattle.nearest_query.proofs.ChunkLaws.{all-met}
use Rattle.nearest_query.proofs.search.search.Goals as goal

pub search_chunks-requires-clause-met : goal.search_chunks-requires-clause-met
search_chunks-requires-clause-met g c κs lives =
    let table = c.args.table.now.table in
    let terms = c.args.plan.now.select.where_terms in
    let P : List ℕ → Type 0 = λ l. AllByRecursion (IsMetChunk table terms) l in
    subst P (sym (c.as_slice.ensures.value ∙ c.in_ok-chunks.ensures)) (all-met table terms above_chunks c.requires.ready.placed)
