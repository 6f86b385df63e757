use Rattle.std.proofs.Common.{rules, arith, ◌∙◌, ◌≡◌, sym, ap, subst, length, Some, w64}
use Rattle.std.specs.Prelude.{slice_index_or}
use Rattle.std.proofs.lemmas.Int.{to_z-of_z}
use Rattle.vec_base.specs.declared.value.Value.TheVariants.{Null, Int}
use Rattle.row_chunks.specs.Cells.{is_cell}
use Rattle.row_chunks.specs.RowSlots.{cells_in, slot_at}
use Rattle.row_model.specs.Groups.{before_in, kind_in}
use Rattle.row_model.specs.Schemas.{is_partition}
use Rattle.row_store.specs.Shown.{shown}
use Rattle.table_version.specs.Viewed.{ViewedRow, is_kind_of}
use Rattle.table_version.proofs.ViewLaws.{cell_low, cell_there, int_key_there, int_partition_there, other_cell, text_key_there, text_partition_there}
use Rattle.table_version.proofs.row_view.RowView.field_in.Goals as goal

pub cell-requires-clause-index : goal.cell-requires-clause-index
cell-requires-clause-index c =
    let columns = c.self.inside.schema.now.columns in
    let row = c.self.inside.row in
    let s = shown c.self.inside.rowid row in
    let there : kind_in columns c.args.place ≡ Some c.args.kind = subst (λ (v : ViewedRow). kind_in v.columns c.args.place ≡ Some c.args.kind) (sym c.self.view_is) c.requires.there in
    let cell = other_cell c.args.kind c.requires.other c.in_default.not-IntKey c.in_default.not-TextKey c.in_default.not-IntPartition c.in_default.not-TextPartition in
    let number : c.before-number-in_default.result ≡ before_in is_cell columns c.args.place = search rules in
    let low = cell_low columns c.args.place (ap (is_kind_of is_cell) there ∙ cell) in
    let same = ap length c.self.invariant.kinds in
    omega (arith, number, low, same)

pub returns-in-IntKey : goal.returns-in-IntKey
returns-in-IntKey c =
    let columns = c.self.inside.schema.now.columns in
    let row = c.self.inside.row in
    let s = shown c.self.inside.rowid row in
    let there : kind_in columns c.args.place ≡ Some c.args.kind = subst (λ (v : ViewedRow). kind_in v.columns c.args.place ≡ Some c.args.kind) (sym c.self.view_is) c.requires.there in
    rw (← c.self.view_is) (ap Int (to_z-of_z w64 c.self.inside.rowid (search rules)) ∙ int_key_there columns s c.args.place c.args.kind there c.in-IntKey.is)

pub returns-in-TextKey : goal.returns-in-TextKey
returns-in-TextKey c =
    let columns = c.self.inside.schema.now.columns in
    let row = c.self.inside.row in
    let s = shown c.self.inside.rowid row in
    let there : kind_in columns c.args.place ≡ Some c.args.kind = subst (λ (v : ViewedRow). kind_in v.columns c.args.place ≡ Some c.args.kind) (sym c.self.view_is) c.requires.there in
    rw (← c.self.view_is) (c.text_key.ensures ∙ text_key_there columns s c.args.place c.args.kind there c.in-TextKey.is)

pub returns-in-IntPartition : goal.returns-in-IntPartition
returns-in-IntPartition c =
    let columns = c.self.inside.schema.now.columns in
    let row = c.self.inside.row in
    let s = shown c.self.inside.rowid row in
    let there : kind_in columns c.args.place ≡ Some c.args.kind = subst (λ (v : ViewedRow). kind_in v.columns c.args.place ≡ Some c.args.kind) (sym c.self.view_is) c.requires.there in
    let number : c.before-number.result ≡ before_in is_partition columns c.args.place = search rules in
    rw (← c.self.view_is) (c.partition_value.ensures ∙ ap (λ xs. slice_index_or xs c.before-number.result Null) c.as_slice.ensures ∙ ap (λ n. slice_index_or row.partition.now n Null) number ∙ int_partition_there columns s c.args.place c.args.kind there c.in-IntPartition.is)

pub returns-in-TextPartition : goal.returns-in-TextPartition
returns-in-TextPartition c =
    let columns = c.self.inside.schema.now.columns in
    let row = c.self.inside.row in
    let s = shown c.self.inside.rowid row in
    let there : kind_in columns c.args.place ≡ Some c.args.kind = subst (λ (v : ViewedRow). kind_in v.columns c.args.place ≡ Some c.args.kind) (sym c.self.view_is) c.requires.there in
    let number : c.before-number-in-TextPartition.result ≡ before_in is_partition columns c.args.place = search rules in
    rw (← c.self.view_is) (c.partition_value-in-TextPartition.ensures ∙ ap (λ xs. slice_index_or xs c.before-number-in-TextPartition.result Null) c.as_slice-in-TextPartition.ensures ∙ ap (λ n. slice_index_or row.partition.now n Null) number ∙ text_partition_there columns s c.args.place c.args.kind there c.in-TextPartition.is)

pub returns-in_default : goal.returns-in_default
returns-in_default c =
    let columns = c.self.inside.schema.now.columns in
    let row = c.self.inside.row in
    let s = shown c.self.inside.rowid row in
    let there : kind_in columns c.args.place ≡ Some c.args.kind = subst (λ (v : ViewedRow). kind_in v.columns c.args.place ≡ Some c.args.kind) (sym c.self.view_is) c.requires.there in
    let cell = other_cell c.args.kind c.requires.other c.in_default.not-IntKey c.in_default.not-TextKey c.in_default.not-IntPartition c.in_default.not-TextPartition in
    let number : c.before-number-in_default.result ≡ before_in is_cell columns c.args.place = search rules in
    rw (← c.self.view_is) (c.cell.ensures ∙ ap (λ n. slice_index_or (cells_in (slot_at row.slots.now row.slot)) n Null) number ∙ cell_there columns s c.args.place c.args.kind there cell)
