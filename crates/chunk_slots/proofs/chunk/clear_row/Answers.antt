use Rattle.std.proofs.Common.{◌<◌, ◌∷◌, [], ◌++◌, length, get_or, ap, sym, ◌∙◌, arith}
use Rattle.chunk_slots.specs.inner.Columns.{widths_of}
use Rattle.chunk_slots.proofs.ColumnLaws.{kept_more, there_kept, row_more, width_kept, count_kept, zeros, zeros_more}
use Rattle.chunk_slots.proofs.chunk.clear_row.Goals as goal

pub clear-requires : goal.clear-requires
clear-requires c =
    let lt : c.loop-index.index < length c.loop-index.columns = omega (arith, c.loop-index-test.true, c.loop-index.auto.columns) in
    there_kept c.args.slot c.loop-index.index c.args.columns.now c.loop-index.columns c.index-columns-index.result c.requires c.loop-index.invariant.kept lt

pub loop-index-preserved : goal.loop-index-preserved
loop-index-preserved c =
    let i = c.loop-index.index in
    let before = c.args.columns.now in
    let after = c.loop-index.columns in
    let d = c.index-columns-index.result in
    let kept = c.loop-index.invariant.kept in
    let lt : i < length after = omega (arith, c.loop-index-test.true, c.loop-index.auto.columns) in
    let is = c.in_ok-clear.ensures {u = tt} in
    let width = width_kept c.args.slot i before after d kept lt in
    record {
      kept = kept_more c.args.slot i (zeros (get_or after i d).width) before after d c.clear.new.self is kept;
      row =
          row_more c.args.slot i (zeros (get_or after i d).width) before after d c.clear.new.self c.requires kept lt is
          ∙ ap (λ row. row ++ zeros (get_or after i d).width ∷ []) c.loop-index.invariant.row
          ∙ sym (zeros_more i (widths_of before) (get_or after i d).width (omega (arith, lt, count_kept c.args.slot before after kept)) width);
    }
