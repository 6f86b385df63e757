use Rattle.std.proofs.Common.{◌≡◌, true, false, List, sym, ap, ◌∙◌}
use Rattle.std.specs.Prelude.{is_some, not}
use Rattle.std.specs.Option.{option_map}
use Rattle.vec_base.specs.declared.value.Value.{Value}
use Rattle.row_store.specs.StoredRows.{StoredRow, first_in}
use Rattle.row_store.specs.inner.Views.{rows_of}
use Rattle.row_store.proofs.ReadLaws.{slots-first, first-none, first-partition, copied-some}
use Rattle.row_store.proofs.store.RowStore.partition.Goals as goal

pub returns-then-is_none : goal.returns-then-is_none
returns-then-is_none c =
    let store = c.self.inside in
    let rows = store.rows in
    let gone : is_some c.slots.result ≡ false = c.is_none.ensures ∙ ap not c.if-is_none.true in
    let none = sym (slots-first rows.parts rows.places rows.index rows.claim store.shape c.self.invariant.tied c.known.ensures.rising c.self.invariant.shapes c.args.chunk) ∙ ap is_some (sym c.slots.ensures) ∙ copied-some c.slots.result ∙ gone in
    sym (ap (λ s. option_map {T = StoredRow} {U = List Value} (λ row. row.partition) (first_in s.rows c.args.chunk)) (sym c.self.view_is) ∙ first-none (rows_of rows.parts rows.places rows.index) c.args.chunk none)

pub returns : goal.returns
returns c =
    let store = c.self.inside in
    let rows = store.rows in
    let there : is_some c.slots.result ≡ true = c.is_none.ensures ∙ ap not c.if-is_none.false in
    let some = sym (slots-first rows.parts rows.places rows.index rows.claim store.shape c.self.invariant.tied c.known.ensures.rising c.self.invariant.shapes c.args.chunk) ∙ ap is_some (sym c.slots.ensures) ∙ copied-some c.slots.result ∙ there in
    c.partition.ensures ∙ first-partition rows.parts rows.places rows.index rows.claim c.self.invariant.tied c.known.ensures.rising c.args.chunk some
    ∙ ap (λ s. option_map {T = StoredRow} {U = List Value} (λ row. row.partition) (first_in s.rows c.args.chunk)) c.self.view_is
