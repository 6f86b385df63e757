use Rattle.std.proofs.Common.{◌≡◌, ◌<◌, ◌∷◌, [], ◌++◌, List, ℕ, Some, None, length, map, take, get_or, set, subst, ap, ap₂, sym, ◌∙◌, arith, rules, length-append}
use Rattle.std.proofs.lemmas.List.{length-map}
use Rattle.vec_base.specs.declared.value.Value.{Value}
use Rattle.chunk_slots.specs.Slots.{vector_of, vectors_of}
use Rattle.chunk_slots.specs.inner.Blocks.{VectorColumn}
use Rattle.chunk_slots.specs.inner.Columns.{widths_of, vectors_at, KeepsOthers}
use Rattle.chunk_slots.proofs.ColumnLaws.{kept_more, there_kept, row_more, width_kept, count_kept}
use Rattle.chunk_slots.proofs.ValueLaws.{vectors_more, vectors_same, vector_counted, width_there}
use Rattle.chunk_slots.proofs.chunk.write_row.Goals as goal
use Rattle.chunk_slots.proofs.chunk.write_row.Goals.{in-Some+in_ok-set, in_default}

-- the next value's vector has a column
column_there : (slot i k : ℕ) (x : Value) (v : List ℕ) (values : List Value) (before after : List VectorColumn) → KeepsOthers slot before after → map length (vectors_of values) ≡ widths_of before → i ≡ length (vectors_of (take k values)) →
    k < length values → x ≡ get_or values k x → vector_of x ≡ Some v → i < length after
column_there slot i k x v values before after kept widths at lt there is =
    omega (arith, at, vector_counted values k x v lt there is, count_kept slot before after kept, ap length widths, length-map (vectors_of values) length)

column_width : (slot i k : ℕ) (x : Value) (v : List ℕ) (values : List Value) (before after : List VectorColumn) (d : VectorColumn) → KeepsOthers slot before after → map length (vectors_of values) ≡ widths_of before →
    i ≡ length (vectors_of (take k values)) → k < length values → x ≡ get_or values k x → vector_of x ≡ Some v → length v ≡ (get_or after i d).width
column_width slot i k x v values before after d kept widths at lt there is = sym (
    width_kept slot i before after d kept (column_there slot i k x v values before after kept widths at lt there is)
    ∙ ap₂ (λ ws n. get_or ws n 0) (sym widths) at
    ∙ width_there values k x v lt there is)

pub bounds-columns-column : goal.bounds-columns-column
bounds-columns-column c =
    let found : vector_of c.value-item.result ≡ Some c.in-Some.vector.now = search rules in
    column_there c.args.slot c.loop-value.column c.loop-value.value-index c.value-item.result c.in-Some.vector.now c.args.values.now c.args.columns.now c.loop-value.columns
    c.loop-value.invariant.kept c.requires.widths c.loop-value.invariant.column c.loop-value-test.true c.value-item.is found

pub set-requires-clause-slot : goal.set-requires-clause-slot
set-requires-clause-slot c =
    let found : vector_of c.value-item.result ≡ Some c.in-Some.vector.now = search rules in
    there_kept c.args.slot c.loop-value.column c.args.columns.now c.loop-value.columns c.index-columns-column.result c.requires.slot c.loop-value.invariant.kept
    (column_there c.args.slot c.loop-value.column c.loop-value.value-index c.value-item.result c.in-Some.vector.now c.args.values.now c.args.columns.now c.loop-value.columns
    c.loop-value.invariant.kept c.requires.widths c.loop-value.invariant.column c.loop-value-test.true c.value-item.is found)

pub set-requires-clause-width : goal.set-requires-clause-width
set-requires-clause-width c =
    let found : vector_of c.value-item.result ≡ Some c.in-Some.vector.now = search rules in
    column_width c.args.slot c.loop-value.column c.loop-value.value-index c.value-item.result c.in-Some.vector.now c.args.values.now c.args.columns.now c.loop-value.columns c.index-columns-column.result
    c.loop-value.invariant.kept c.requires.widths c.loop-value.invariant.column c.loop-value-test.true c.value-item.is found

pub loop-value-preserved : goal.loop-value-preserved
loop-value-preserved c = elim c.match-vector_of.branch [
  | in-Some+in_ok-set w ↦ (
      let found : vector_of c.value-item.result ≡ Some w.in-Some.vector.now = search rules in
      let k = c.loop-value.value-index in
      let values = c.args.values.now in
      let before = c.args.columns.now in
      let after = c.loop-value.columns in
      let d = w.index-columns-column.result in
      let kept = c.loop-value.invariant.kept in
      let at = c.loop-value.invariant.column in
      let more = vectors_more values k c.value-item.result w.in-Some.vector.now c.loop-value-test.true c.value-item.is found in
      let lt = column_there c.args.slot c.loop-value.column k c.value-item.result w.in-Some.vector.now values before after kept c.requires.widths at c.loop-value-test.true c.value-item.is found in
      let is = w.in_ok-set.ensures {u = tt} in
      let new : c.match-vector_of.columns ≡ set after c.loop-value.column w.set.new.self = w.columns-is in
      record {
        kept = subst (λ columns. KeepsOthers c.args.slot before columns) (sym new) (kept_more c.args.slot c.loop-value.column w.in-Some.vector.now before after d w.set.new.self is kept);
        column = omega (arith, w.column-is, at, ap length more, length-append (vectors_of (take k values)) (w.in-Some.vector.now ∷ []));
        row =
            ap₂ (λ n columns. take n (vectors_at columns c.args.slot)) w.column-is new
            ∙ row_more c.args.slot c.loop-value.column w.in-Some.vector.now before after d w.set.new.self c.requires.slot kept lt is
            ∙ ap (λ row. row ++ w.in-Some.vector.now ∷ []) c.loop-value.invariant.row
            ∙ sym more;
      })
  | in_default w ↦ (
      let none : vector_of c.value-item.result ≡ None = search rules in
      let same = vectors_same c.args.values.now c.loop-value.value-index c.value-item.result c.loop-value-test.true c.value-item.is none in
      record {
        kept = subst (λ columns. KeepsOthers c.args.slot c.args.columns.now columns) (sym w.columns-is) c.loop-value.invariant.kept;
        column = w.column-is ∙ c.loop-value.invariant.column ∙ ap length (sym same);
        row = ap₂ (λ n columns. take n (vectors_at columns c.args.slot)) w.column-is w.columns-is ∙ c.loop-value.invariant.row ∙ sym same;
      })
]
