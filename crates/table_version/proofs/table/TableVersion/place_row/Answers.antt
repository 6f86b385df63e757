use Rattle.std.proofs.Common.{rules, ◌≡◌, ◌∙◌, ◌+◌, ◌<◌, ◌^◌, ℕ, true, false, sym, ap, ap₂, subst, map, length, w64, FitsSigned}
use Rattle.std.specs.Prelude.{sum_by}
use Rattle.chunk_slots.specs.Slots.{vectors_of}
use Rattle.row_chunks.specs.Cells.{are_cell_values, cells_of}
use Rattle.row_model.specs.Values.{side_bytes}
use Rattle.row_store.specs.StoredRows.{with_row}
use Rattle.shadow_records.specs.PlacedTables.{partition_of}
use Rattle.table_version.specs.Kept.{id_in}
use Rattle.table_version.specs.PlacedRows.{table_with}
use Rattle.table_version.specs.Placing.{FitsBeside, row_placed}
use Rattle.table_version.specs.Versions.{VersionState}
use Rattle.table_version.specs.inner.Room.{HasRoom}
use Rattle.table_version.specs.inner.StoredTables.{IsSound}
use Rattle.table_version.proofs.PlacingLaws.{fits-room, placed-cells, placed-short, placed-table, placed-widths, room-fits, sound-placed, stored-is}
use Rattle.table_version.proofs.SoundLaws.{sides_fit}
use Rattle.table_version.proofs.table.TableVersion.place_row.Goals as goal

pub returns-then-not-has_room-clause-refused : goal.returns-then-not-has_room-clause-refused
returns-then-not-has_room-clause-refused c = λ same fits.
    let v = c.self.inside in
    let none : c.has_room.result ≡ false = search rules in
    let partition : c.in_ok-partition.partition ≡ partition_of v.schema.columns c.args.values.now = c.in_ok-partition.ensures ∙ ap₂ partition_of c.as_slice.ensures c.as_slice-2.ensures in
    let here = subst (λ (w : VersionState). FitsBeside w.table (row_placed c.args.place.now c.args.values.now)) (sym c.self.view_is) fits in
    let room = fits-room v.name v.schema v.top v.rows v.side_bytes c.args.place.now c.args.values.now c.self.invariant here in
    c.has_room.ensures.refused none (subst (λ p. HasRoom v.schema v.top v.rows.rows c.args.place.now p c.args.values.now) (sym partition) room)

pub place_row-requires-clause-widths : goal.place_row-requires-clause-widths
place_row-requires-clause-widths c =
    let v = c.self.inside in
    let there : c.has_room.result ≡ true = search rules in
    let partition : c.in_ok-partition.partition ≡ partition_of v.schema.columns c.args.values.now = c.in_ok-partition.ensures ∙ ap₂ partition_of c.as_slice.ensures c.as_slice-2.ensures in
    let fits = room-fits v.name v.schema v.top v.rows v.side_bytes c.args.place.now c.args.values.now c.self.invariant (subst (λ p. HasRoom v.schema v.top v.rows.rows c.args.place.now p c.args.values.now) partition (c.has_room.ensures.room there)) in
    ap (λ vs. map length (vectors_of vs)) c.as_slice-6.ensures ∙ placed-widths v.name v.schema v.top v.rows v.side_bytes c.args.place.now c.args.values.now c.self.invariant fits

pub place_row-requires-clause-cells : goal.place_row-requires-clause-cells
place_row-requires-clause-cells c =
    let v = c.self.inside in
    let there : c.has_room.result ≡ true = search rules in
    let partition : c.in_ok-partition.partition ≡ partition_of v.schema.columns c.args.values.now = c.in_ok-partition.ensures ∙ ap₂ partition_of c.as_slice.ensures c.as_slice-2.ensures in
    let fits = room-fits v.name v.schema v.top v.rows v.side_bytes c.args.place.now c.args.values.now c.self.invariant (subst (λ p. HasRoom v.schema v.top v.rows.rows c.args.place.now p c.args.values.now) partition (c.has_room.ensures.room there)) in
    ap (are_cell_values v.rows.kinds) (ap₂ cells_of c.as_slice-5.ensures c.as_slice-6.ensures) ∙ placed-cells v.name v.schema v.top v.rows v.side_bytes c.args.place.now c.args.values.now c.self.invariant fits

pub all_side_bytes-requires : goal.all_side_bytes-requires
all_side_bytes-requires c =
    let v = c.self.inside in
    let there : c.has_room.result ≡ true = search rules in
    let partition : c.in_ok-partition.partition ≡ partition_of v.schema.columns c.args.values.now = c.in_ok-partition.ensures ∙ ap₂ partition_of c.as_slice.ensures c.as_slice-2.ensures in
    let fits = room-fits v.name v.schema v.top v.rows v.side_bytes c.args.place.now c.args.values.now c.self.invariant (subst (λ p. HasRoom v.schema v.top v.rows.rows c.args.place.now p c.args.values.now) partition (c.has_room.ensures.room there)) in
    subst (λ vs. sum_by side_bytes vs < 2 ^ 64) (sym c.as_slice-7.ensures) (placed-short v.name v.schema v.top v.rows v.side_bytes c.args.place.now c.args.values.now c.self.invariant fits)

pub overflow_add-self : goal.overflow_add-self
overflow_add-self c =
    let v = c.self.inside in
    let there : c.has_room.result ≡ true = search rules in
    let partition : c.in_ok-partition.partition ≡ partition_of v.schema.columns c.args.values.now = c.in_ok-partition.ensures ∙ ap₂ partition_of c.as_slice.ensures c.as_slice-2.ensures in
    let number : FitsSigned w64 c.args.place.now.rowid = search rules in
    let fits = room-fits v.name v.schema v.top v.rows v.side_bytes c.args.place.now c.args.values.now c.self.invariant (subst (λ p. HasRoom v.schema v.top v.rows.rows c.args.place.now p c.args.values.now) partition (c.has_room.ensures.room there)) in
    let rows = c.in_ok-place_row.ensures.rows ∙ ap (λ s. with_row s v.rows.rows) (stored-is v.schema.columns c.args.place.now c.args.values.now (c.text_id.ensures ∙ ap₂ id_in c.as_slice-3.ensures c.as_slice-4.ensures) partition (ap vectors_of c.as_slice-6.ensures) (ap₂ cells_of c.as_slice-5.ensures c.as_slice-6.ensures)) in
    let sound = sound-placed v.name v.schema v.top v.rows v.side_bytes c.args.place.now c.args.values.now c.self.invariant c.place_row.new.self fits number c.list_representable.ensures rows c.place_row.ensures.shape in
    let sides : c.all_side_bytes.result ≡ sum_by side_bytes c.args.values.now = c.all_side_bytes.ensures ∙ ap (sum_by side_bytes) c.as_slice-7.ensures in
    let less : v.side_bytes + c.all_side_bytes.result < 2 ^ 64 = subst (λ (n : ℕ). v.side_bytes + n < 2 ^ 64) (sym sides) (sides_fit v.name v.schema v.top c.place_row.new.self (v.side_bytes + sum_by side_bytes c.args.values.now) sound) in
    search rules

pub invariant_of-self-2 : goal.invariant_of-self-2
invariant_of-self-2 c =
    let v = c.self.inside in
    let there : c.has_room.result ≡ true = search rules in
    let partition : c.in_ok-partition.partition ≡ partition_of v.schema.columns c.args.values.now = c.in_ok-partition.ensures ∙ ap₂ partition_of c.as_slice.ensures c.as_slice-2.ensures in
    let number : FitsSigned w64 c.args.place.now.rowid = search rules in
    let fits = room-fits v.name v.schema v.top v.rows v.side_bytes c.args.place.now c.args.values.now c.self.invariant (subst (λ p. HasRoom v.schema v.top v.rows.rows c.args.place.now p c.args.values.now) partition (c.has_room.ensures.room there)) in
    let rows = c.in_ok-place_row.ensures.rows ∙ ap (λ s. with_row s v.rows.rows) (stored-is v.schema.columns c.args.place.now c.args.values.now (c.text_id.ensures ∙ ap₂ id_in c.as_slice-3.ensures c.as_slice-4.ensures) partition (ap vectors_of c.as_slice-6.ensures) (ap₂ cells_of c.as_slice-5.ensures c.as_slice-6.ensures)) in
    let sound = sound-placed v.name v.schema v.top v.rows v.side_bytes c.args.place.now c.args.values.now c.self.invariant c.place_row.new.self fits number c.list_representable.ensures rows c.place_row.ensures.shape in
    let sides : c.all_side_bytes.result ≡ sum_by side_bytes c.args.values.now = c.all_side_bytes.ensures ∙ ap (sum_by side_bytes) c.as_slice-7.ensures in
    subst (λ (n : ℕ). IsSound v.name v.schema v.top c.place_row.new.self (v.side_bytes + n)) (sym sides) sound

pub returns-clause-fits : goal.returns-clause-fits
returns-clause-fits c = λ same.
    let v = c.self.inside in
    let there : c.has_room.result ≡ true = search rules in
    let partition : c.in_ok-partition.partition ≡ partition_of v.schema.columns c.args.values.now = c.in_ok-partition.ensures ∙ ap₂ partition_of c.as_slice.ensures c.as_slice-2.ensures in
    let fits = room-fits v.name v.schema v.top v.rows v.side_bytes c.args.place.now c.args.values.now c.self.invariant (subst (λ p. HasRoom v.schema v.top v.rows.rows c.args.place.now p c.args.values.now) partition (c.has_room.ensures.room there)) in
    subst (λ (w : VersionState). FitsBeside w.table (row_placed c.args.place.now c.args.values.now)) c.self.view_is fits

pub returns-clause-table : goal.returns-clause-table
returns-clause-table c =
    let v = c.self.inside in
    let there : c.has_room.result ≡ true = search rules in
    let partition : c.in_ok-partition.partition ≡ partition_of v.schema.columns c.args.values.now = c.in_ok-partition.ensures ∙ ap₂ partition_of c.as_slice.ensures c.as_slice-2.ensures in
    let fits = room-fits v.name v.schema v.top v.rows v.side_bytes c.args.place.now c.args.values.now c.self.invariant (subst (λ p. HasRoom v.schema v.top v.rows.rows c.args.place.now p c.args.values.now) partition (c.has_room.ensures.room there)) in
    let rows = c.in_ok-place_row.ensures.rows ∙ ap (λ s. with_row s v.rows.rows) (stored-is v.schema.columns c.args.place.now c.args.values.now (c.text_id.ensures ∙ ap₂ id_in c.as_slice-3.ensures c.as_slice-4.ensures) partition (ap vectors_of c.as_slice-6.ensures) (ap₂ cells_of c.as_slice-5.ensures c.as_slice-6.ensures)) in
    placed-table v.name v.schema v.top v.rows v.side_bytes c.args.place.now c.args.values.now c.self.invariant c.place_row.new.self.rows fits rows
    ∙ ap (λ (w : VersionState). table_with w.table (row_placed c.args.place.now c.args.values.now)) c.self.view_is
