use Rattle.std.proofs.Common.{◌&&◌, ◌<◌, subst, false, length, get_or, slice_get, ap, ap₂, sym, ◌∙◌, refl, arith}
use Rattle.std.specs.Option.{is_some}
use Rattle.vec_base.specs.declared.value.Value.TheVariants.{Null}
use Rattle.row_model.specs.Values.{passes}
use Rattle.row_chunks.specs.Cells.{can_filter, takes_test}
use Rattle.row_chunks.specs.RowSlots.{cells_in}
use Rattle.row_chunks.proofs.CellLaws.{kind_within, kind_takes}
use Rattle.row_chunks.proofs.ChunkLaws.{column_within, column_there, cell_seen, size_seen, size_there}
use Rattle.row_chunks.proofs.FilterLaws.{length_kept, stays_clear, kept_at}
use Rattle.row_chunks.proofs.row_chunk.RowChunk.filter.Goals as goal

pub filter-requires-clause-size : goal.filter-requires-clause-size
filter-requires-clause-size c =
    let columns = c.self.inside.columns.items in
    let within = kind_within (λ kind. takes_test kind c.args.test.now) refl c.args.self.now.kinds c.args.index c.requires.test in
    let lt = column_within columns c.self.inside.slots c.args.self.now c.from.result c.self.view_is (omega (arith, c.from.ensures, within)) in
    c.requires.size
    ∙ size_seen columns c.self.inside.slots c.args.self.now c.self.view_is
    ∙ sym (ap (λ column. length column.cells) c.index.ensures ∙ size_there (length c.self.inside.slots.slots) c.from.result columns c.index.result.now c.self.invariant.0 lt)

pub filter-requires-clause-test : goal.filter-requires-clause-test
filter-requires-clause-test c =
    let test = c.args.test.now in
    let here = ap₂ (λ kinds i. takes_test (slice_get kinds i) test) (ap (λ chunk. chunk.kinds) c.self.view_is) c.from.ensures ∙ c.requires.test in
    ap (λ column. can_filter column.kind test) c.index.ensures ∙ kind_takes (λ kind. takes_test kind test) refl c.self.inside.columns.items c.from.result c.index.result.now here

pub returns-clause-size : goal.returns-clause-size
returns-clause-size c =
    let columns = c.self.inside.columns.items in
    let within = kind_within (λ kind. takes_test kind c.args.test.now) refl c.args.self.now.kinds c.args.index c.requires.test in
    let lt = column_within columns c.self.inside.slots c.args.self.now c.from.result c.self.view_is (omega (arith, c.from.ensures, within)) in
    let same = c.requires.size ∙ size_seen columns c.self.inside.slots c.args.self.now c.self.view_is
    ∙ sym (ap (λ column. length column.cells) c.index.ensures ∙ size_there (length c.self.inside.slots.slots) c.from.result columns c.index.result.now c.self.invariant.0 lt) in
    ap length c.filter.ensures ∙ length_kept (passes c.args.test.now) c.index.result.now.cells c.args.keep.now same ∙ c.requires.size

pub returns-clause-cleared : goal.returns-clause-cleared
returns-clause-cleared c slot clear = ap (λ bits. get_or bits slot false) c.filter.ensures ∙ stays_clear (passes c.args.test.now) c.index.result.now.cells c.args.keep.now slot clear

pub returns-clause-passed : goal.returns-clause-passed
returns-clause-passed c slot used there =
    let columns = c.self.inside.columns.items in
    let d = c.index.result.now in
    let chunk = c.args.self.now in
    let keep = c.args.keep.now in
    let is_used = ap is_some there in
    let within = kind_within (λ kind. takes_test kind c.args.test.now) refl chunk.kinds c.args.index c.requires.test in
    let lt : c.from.result < length chunk.kinds = omega (arith, c.from.ensures, within) in
    let slot_in = subst (λ column. slot < length column.cells) (sym c.index.ensures) (column_there slot c.from.result columns d c.self.inside.slots chunk c.self.invariant.0 lt c.self.view_is is_used) in
    let cell =
    ap (λ column. get_or column.cells slot Null) c.index.ensures
    ∙ cell_seen slot c.from.result columns d c.self.inside.slots chunk lt c.self.view_is is_used
    ∙ ap₂ (λ content i. get_or (cells_in content) i Null) there c.from.ensures in
    ap (λ bits. get_or bits slot false) c.filter.ensures
    ∙ kept_at (passes c.args.test.now) d.cells Null keep slot slot_in
    ∙ ap (λ v. get_or keep slot false && passes c.args.test.now v) cell
