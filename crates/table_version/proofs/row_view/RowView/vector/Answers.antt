use Rattle.std.proofs.Common.{rules, arith, ◌∙◌, ◌≡◌, ◌-◌, true, sym, ap, subst, length, Some, []}
use Rattle.std.specs.Prelude.{slice_index_or}
use Rattle.chunk_slots.specs.Slots.{vector_at}
use Rattle.row_chunks.specs.RowSlots.{slot_at, vectors_in}
use Rattle.row_model.specs.Groups.{before_in, kind_in}
use Rattle.row_model.specs.Schemas.{is_vector}
use Rattle.row_store.specs.Shown.{shown}
use Rattle.table_version.specs.Viewed.{ViewedRow, is_kind_of}
use Rattle.table_version.specs.inner.StoredTables.{kept_in}
use Rattle.table_version.proofs.ViewLaws.{before_low, plain-used, plain-vector, vector_there}
use Rattle.table_version.proofs.row_view.RowView.vector.Goals as goal

pub vector-requires-clause-used : goal.vector-requires-clause-used
vector-requires-clause-used c = let row = c.self.inside.row in rw c.slots.ensures (plain-used row.slots.now row.slot c.self.invariant.used)

pub vector-requires-clause-column : goal.vector-requires-clause-column
vector-requires-clause-column c =
    let columns = c.self.inside.schema.now.columns in
    let place = c.args.column - 1 in
    let vector = subst (λ (v : ViewedRow). is_kind_of is_vector (kind_in v.columns place) ≡ true) (sym c.self.view_is) c.requires.vectors in
    let number : c.before-number.result ≡ before_in is_vector columns place = search rules in
    let low = before_low columns place vector in
    let wide = ap length c.self.invariant.widths in
    rw c.slots.ensures (omega (arith, number, low, wide))

pub returns-clause-vector : goal.returns-clause-vector
returns-clause-vector c =
    let columns = c.self.inside.schema.now.columns in
    let place = c.args.column - 1 in
    let row = c.self.inside.row in
    let s = shown c.self.inside.rowid row in
    let vectors = vectors_in (slot_at row.slots.now row.slot) in
    let vector = subst (λ (v : ViewedRow). is_kind_of is_vector (kind_in v.columns place) ≡ true) (sym c.self.view_is) c.requires.vectors in
    let number : c.before-number.result ≡ before_in is_vector columns place = search rules in
    rw (← c.self.view_is) (vector_there columns s.rowid s.id (kept_in s) place vector
    ∙ ap Some (ap (λ n. slice_index_or vectors n []) (sym number) ∙ sym (plain-vector row.slots.now row.slot c.before-number.result)
    ∙ ap (λ chunk. vector_at chunk row.slot c.before-number.result) (sym c.slots.ensures) ∙ sym c.vector.ensures.vector))
