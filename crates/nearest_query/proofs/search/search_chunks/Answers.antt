use Rattle.std.proofs.Common.{◌∙◌, arith, refl}
use Rattle.std.specs.Prelude.{map}
use Rattle.nearest_query.specs.inner.Pieces.{piece_scanned}
use Rattle.nearest_query.proofs.JoiningLaws.{few_pieces, gathered_from, hits_gathered, most_gathered, pieces_gathered, reads_gathered}
use Rattle.nearest_query.proofs.search.search_chunks.Goals as goal

pub scan_and_gather-requires-clause-few : goal.scan_and_gather-requires-clause-few
scan_and_gather-requires-clause-few g c =
    let table = c.args.table.now.table in
    let plan = c.args.plan.now in
    let target = c.args.target.now in
    let few = few_pieces table plan target c.args.k c.args.count c.args.chunks.now c.in_ok-pieces.pieces.items c.add_pieces.new.pieces.items c.as_mut_slice.result.now c.in_ok-pieces.ensures.items c.in_ok-add_pieces.ensures.added c.as_mut_slice.ensures.value in
    omega (arith, few, c.requires.few)

pub returns-clause-hits : goal.returns-clause-hits
returns-clause-hits g c =
    let table = c.args.table.now.table in
    let plan = c.args.plan.now in
    let target = c.args.target.now in
    let are = gathered_from table plan target c.args.k c.args.count c.args.chunks.now c.in_ok-pieces.pieces.items c.add_pieces.new.pieces.items c.as_mut_slice.result.now (map piece_scanned c.as_mut_slice.result.now) c.in_ok-pieces.ensures.items c.in_ok-add_pieces.ensures.added c.as_mut_slice.ensures.value refl in
    c.into_sorted.ensures.hits ∙ hits_gathered table plan target c.args.k c.args.count c.args.chunks.now (map piece_scanned c.as_mut_slice.result.now) c.in_ok-best.best.room c.in_ok-best.best.hits c.scan_and_gather.new.best.hits c.requires.some are c.in_ok-best.ensures.room c.in_ok-best.ensures.hits c.scan_and_gather.ensures.hits

pub returns-clause-reads : goal.returns-clause-reads
returns-clause-reads g c =
    let table = c.args.table.now.table in
    let plan = c.args.plan.now in
    let target = c.args.target.now in
    let are = gathered_from table plan target c.args.k c.args.count c.args.chunks.now c.in_ok-pieces.pieces.items c.add_pieces.new.pieces.items c.as_mut_slice.result.now (map piece_scanned c.as_mut_slice.result.now) c.in_ok-pieces.ensures.items c.in_ok-add_pieces.ensures.added c.as_mut_slice.ensures.value refl in
    reads_gathered table plan target c.args.k c.args.count c.args.chunks.now (map piece_scanned c.as_mut_slice.result.now) c.args.steps.now.reads c.add_pieces.new.steps.reads c.scan_and_gather.new.steps.reads c.requires.some are c.add_pieces.ensures.reads c.scan_and_gather.ensures.reads

pub returns-clause-pieces : goal.returns-clause-pieces
returns-clause-pieces g c = pieces_gathered (map piece_scanned c.as_mut_slice.result.now) c.args.steps.now.pieces c.add_pieces.new.steps.pieces c.scan_and_gather.new.steps.pieces c.args.count c.in_ok-add_pieces.ensures.pieces c.scan_and_gather.ensures.pieces

pub returns-clause-most : goal.returns-clause-most
returns-clause-most g c =
    let table = c.args.table.now.table in
    let plan = c.args.plan.now in
    let target = c.args.target.now in
    let are = gathered_from table plan target c.args.k c.args.count c.args.chunks.now c.in_ok-pieces.pieces.items c.add_pieces.new.pieces.items c.as_mut_slice.result.now (map piece_scanned c.as_mut_slice.result.now) c.in_ok-pieces.ensures.items c.in_ok-add_pieces.ensures.added c.as_mut_slice.ensures.value refl in
    most_gathered table plan target c.args.k c.args.count c.args.chunks.now (map piece_scanned c.as_mut_slice.result.now) c.args.steps.now.pieces c.add_pieces.new.steps.pieces c.scan_and_gather.new.steps.pieces are c.in_ok-add_pieces.ensures.pieces c.scan_and_gather.ensures.pieces
