use Rattle.std.proofs.Common.{◌≡◌, ◌<◌, ◌+◌, length, get_or, set, ap, sym, ◌∙◌, subst, arith}
use Rattle.std.proofs.lemmas.List.{length-map}
use Rattle.vec_base.specs.declared.value.Value.TheVariants.{Null}
use Rattle.row_chunks.specs.Cells.{is_cell_value}
use Rattle.row_chunks.specs.inner.CellColumns.{column_with, kinds_in, cells_at, KeepsOthers}
use Rattle.row_chunks.proofs.ColumnLaws.{keeps-itself, kept_more, there_kept, cells_more, count_kept}
use Rattle.row_chunks.proofs.WriteLaws.{IsWritten, begun, cell_there, cell_takes, cell_written, value_left_out, all_written}
use Rattle.row_chunks.proofs.row_chunk.write_cells.Goals as goal
use Rattle.row_chunks.proofs.row_chunk.write_cells.Goals.{then-is_cell+in_ok-put, else-is_cell}

pub loop-index-init : goal.loop-index-init
loop-index-init c = record {
  kept = keeps-itself c.args.slot c.args.cells.now;
  written = begun (kinds_in c.args.cells.now) c.args.columns.now c.args.values.now (cells_at c.args.cells.now c.args.slot) c.requires.kinds c.requires.values;
}

pub put-requires-clause-slot : goal.put-requires-clause-slot
put-requires-clause-slot c =
    let k = c.loop-index.index in
    let columns = c.args.columns.now in
    let values = c.args.values.now in
    let before = c.args.cells.now in
    let after = c.loop-index.cells in
    let kept = c.loop-index.invariant.kept in
    let lt = cell_there c.loop-index.next k columns c.index-columns-index.result values c.index-values-index.result (omega (arith, c.loop-index-test.true, c.min-index-end.ensures)) (omega (arith, c.loop-index-test.true, c.min-index-end.ensures))
    c.args.slot before after kept c.loop-index.invariant.written (sym (c.if-is_cell.ensures {u = tt})) in
    there_kept c.args.slot c.loop-index.next before after c.index-cells-next.result c.requires.slot kept lt

pub put-requires-clause-value : goal.put-requires-clause-value
put-requires-clause-value c =
    let k = c.loop-index.index in
    let columns = c.args.columns.now in
    let values = c.args.values.now in
    let after = c.loop-index.cells in
    let d = c.index-cells-next.result in
    let takes = cell_takes c.loop-index.next k columns c.index-columns-index.result values c.index-values-index.result (omega (arith, c.loop-index-test.true, c.min-index-end.ensures)) (omega (arith, c.loop-index-test.true, c.min-index-end.ensures))
    c.args.slot c.args.cells.now after d c.loop-index.invariant.kept c.loop-index.invariant.written (sym (c.if-is_cell.ensures {u = tt})) in
    ap (is_cell_value (get_or after c.loop-index.next d).kind) c.index-values-index.is ∙ takes

pub loop-index-preserved : goal.loop-index-preserved
loop-index-preserved c =
    let k = c.loop-index.index in
    let next = c.loop-index.next in
    let slot = c.args.slot in
    let columns = c.args.columns.now in
    let values = c.args.values.now in
    let before = c.args.cells.now in
    let after = c.loop-index.cells in
    let kept = c.loop-index.invariant.kept in
    let written = c.loop-index.invariant.written in
    let k_c : k < length columns = omega (arith, c.loop-index-test.true, c.min-index-end.ensures) in
    let k_v : k < length values = omega (arith, c.loop-index-test.true, c.min-index-end.ensures) in
    elim c.if-is_cell.branch [
      | then-is_cell+in_ok-put w ↦ (
          let d = w.index-cells-next.result in
          let v = get_or values k w.index-values-index.result in
          let cell = sym (w.if-is_cell.ensures {u = tt}) in
          let lt = cell_there next k columns c.index-columns-index.result values w.index-values-index.result k_c k_v slot before after kept written cell in
          let is = w.in_ok-put.ensures {u = tt} ∙ ap (λ value. column_with slot value (get_or after next d)) w.index-values-index.is in
          let more = cells_more slot next v before after d w.put.new.self c.requires.slot kept lt is in
          let new : c.if-is_cell.cells ≡ set after next w.put.new.self = w.cells-is in
          record {
            kept = subst (λ cells. KeepsOthers slot before cells) (sym new) (kept_more slot next v before after d w.put.new.self is kept);
            written =
                subst (λ cells. IsWritten c.if-is_cell.next (k + 1) (kinds_in before) columns values (cells_at cells slot)) (sym new)
                (subst (λ n. IsWritten n (k + 1) (kinds_in before) columns values (cells_at (set after next w.put.new.self) slot)) (sym w.next-is)
                (cell_written next k columns c.index-columns-index.result values w.index-values-index.result k_c k_v (kinds_in before) (cells_at after slot) (cells_at (set after next w.put.new.self) slot) written cell more));
          })
      | else-is_cell w ↦ record {
        kept = subst (λ cells. KeepsOthers slot before cells) (sym w.cells-is) kept;
        written =
            subst (λ cells. IsWritten c.if-is_cell.next (k + 1) (kinds_in before) columns values (cells_at cells slot)) (sym w.cells-is)
            (subst (λ n. IsWritten n (k + 1) (kinds_in before) columns values (cells_at after slot)) (sym w.next-is)
            (value_left_out next k columns c.index-columns-index.result values (get_or values k Null) k_c k_v (kinds_in before) (cells_at after slot) written (sym (w.if-is_cell.ensures {u = tt}))));
      }
    ]

pub returns-clause-row : goal.returns-clause-row
returns-clause-row c =
    let after = c.loop-index.cells in
    let before = c.args.cells.now in
    let same = length-map after (λ column. get_or column.cells c.args.slot Null) ∙ count_kept c.args.slot before after c.loop-index.invariant.kept in
    all_written c.loop-index.next c.loop-index.index (kinds_in before) c.args.columns.now c.args.values.now (cells_at after c.args.slot) c.loop-index.invariant.written same
    (λ lt. omega (arith, lt, c.loop-index-test.false, c.min-index-end.ensures))
