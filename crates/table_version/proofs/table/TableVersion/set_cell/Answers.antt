use Rattle.std.proofs.Common.{rules, arith, ◌∙◌, ◌≡◌, ◌+◌, ◌-◌, ◌<◌, ◌≤◌, ◌^◌, ℕ, Bool, true, sym, ap, subst, length}
use Rattle.std.specs.Prelude.{is_some, if◌then◌else◌}
use Rattle.std.specs.List.{slice_get}
use Rattle.row_chunks.specs.Cells.{is_cell, kinds_of, takes_value}
use Rattle.row_model.specs.Groups.{before_in}
use Rattle.row_model.specs.Values.{side_bytes}
use Rattle.row_store.specs.StoredRows.{row_of as stored_of, with_cell, with_changed}
use Rattle.table_version.specs.Versions.{VersionState}
use Rattle.table_version.specs.Viewed.{can_set, is_kind_of, kind_numbered}
use Rattle.table_version.proofs.ChangedLaws.{sound-changed}
use Rattle.table_version.proofs.PutLaws.{made_origin}
use Rattle.table_version.proofs.RemoveLaws.{was_some}
use Rattle.table_version.proofs.SoundLaws.{sides_fit}
use Rattle.table_version.proofs.UpdateLaws.{cell_among, cell_kind, cell_setting, cell_taken, cell_total, set_place, update_table}
use Rattle.table_version.proofs.ViewLaws.{cell_low}
use Rattle.table_version.proofs.table.TableVersion.set_cell.Goals as goal

pub cell_bytes-before-requires : goal.cell_bytes-before-requires
cell_bytes-before-requires c =
    let v = c.self.inside in
    let columns = v.schema.columns in
    let sets = subst (λ (w : VersionState). can_set (kind_numbered w.table.schema.columns c.args.column) c.args.value.now ≡ true) (sym c.self.view_is) c.requires.column in
    let at = set_place columns c.args.column c.args.value.now sets in
    let is = cell_kind at.kind c.args.value.now at.sort at.fits c.requires.vector in
    let index : c.before-index.result ≡ before_in is_cell columns (c.args.column - 1) = search rules in
    let low = cell_low columns (c.args.column - 1) (ap (is_kind_of is_cell) at.there ∙ is) in
    let same = ap length c.self.invariant.kinds in
    omega (arith, index, low, same)

pub set_cell-requires : goal.set_cell-requires
set_cell-requires c =
    let v = c.self.inside in
    let columns = v.schema.columns in
    let sets = subst (λ (w : VersionState). can_set (kind_numbered w.table.schema.columns c.args.column) c.args.value.now ≡ true) (sym c.self.view_is) c.requires.column in
    let at = set_place columns c.args.column c.args.value.now sets in
    let is = cell_kind at.kind c.args.value.now at.sort at.fits c.requires.vector in
    let index : c.before-index.result ≡ before_in is_cell columns (c.args.column - 1) = search rules in
    record {
      cell = ap (λ kinds. takes_value (slice_get kinds c.before-index.result) c.args.value.now) c.self.invariant.kinds
          ∙ ap (λ (n : ℕ). takes_value (slice_get (kinds_of columns) n) c.args.value.now) index
          ∙ ap (λ kind. takes_value kind c.args.value.now) (cell_taken columns (c.args.column - 1) at.kind at.there is) ∙ at.fits;
    }

pub returns-in_err-is_there-clause-origin : goal.returns-in_err-is_there-clause-origin
returns-in_err-is_there-clause-origin c =
    let v = c.self.inside in
    made_origin c.args.self.now v.name v.schema v.top v.top v.rows c.set_cell.new.self v.side_bytes c.self.view_is c.self.invariant c.set_cell.ensures.origin

pub overflow_sub-self : goal.overflow_sub-self
overflow_sub-self c =
    let v = c.self.inside in
    subst (λ (n : ℕ). n ≤ v.side_bytes) (sym c.cell_bytes-before.ensures) (cell_among v.name v.schema v.top v.rows v.side_bytes c.args.rowid.now c.before-index.result c.self.invariant)

pub overflow_add-self : goal.overflow_add-self
overflow_add-self c =
    let v = c.self.inside in
    let columns = v.schema.columns in
    let sets = subst (λ (w : VersionState). can_set (kind_numbered w.table.schema.columns c.args.column) c.args.value.now ≡ true) (sym c.self.view_is) c.requires.column in
    let at = set_place columns c.args.column c.args.value.now sets in
    let is = cell_kind at.kind c.args.value.now at.sort at.fits c.requires.vector in
    let index : c.before-index.result ≡ before_in is_cell columns (c.args.column - 1) = search rules in
    let setting = cell_setting v.name v.schema v.top v.rows v.side_bytes c.args.column c.args.value.now c.self.invariant at c.value_representable.ensures c.requires.vector in
    let rows = c.in_ok-is_there.ensures.rows ∙ ap (λ (n : ℕ). with_changed c.args.rowid.now (with_cell n c.args.value.now) v.rows.rows) index in
    let added : c.bytes_added.result ≡ (if is_some (stored_of c.args.rowid.now v.rows.rows) then side_bytes c.args.value.now else 0) =
    c.bytes_added.ensures ∙ ap (λ (b : Bool). if b then side_bytes c.args.value.now else 0) c.in_ok-is_there.ensures.answer in
    let total = cell_total v.name v.schema v.top c.args.rowid.now c.args.column c.before-index.result at.kind c.args.value.now _ v.rows c.set_cell.new.self v.side_bytes c.cell_bytes-before.result c.bytes_added.result
    c.self.invariant setting is index rows c.cell_bytes-before.ensures added in
    let sound = sound-changed v.name v.schema v.top c.args.rowid.now (c.args.column - 1) at.kind c.args.value.now _ v.rows c.set_cell.new.self v.side_bytes (v.side_bytes - c.cell_bytes-before.result + c.bytes_added.result)
    c.self.invariant setting rows c.set_cell.ensures.shape total in
    let few : v.side_bytes - c.cell_bytes-before.result + c.bytes_added.result < 2 ^ 64 = sides_fit v.name v.schema v.top c.set_cell.new.self (v.side_bytes - c.cell_bytes-before.result + c.bytes_added.result) sound in
    search rules

pub invariant_of-self-2 : goal.invariant_of-self-2
invariant_of-self-2 c =
    let v = c.self.inside in
    let columns = v.schema.columns in
    let sets = subst (λ (w : VersionState). can_set (kind_numbered w.table.schema.columns c.args.column) c.args.value.now ≡ true) (sym c.self.view_is) c.requires.column in
    let at = set_place columns c.args.column c.args.value.now sets in
    let is = cell_kind at.kind c.args.value.now at.sort at.fits c.requires.vector in
    let index : c.before-index.result ≡ before_in is_cell columns (c.args.column - 1) = search rules in
    let setting = cell_setting v.name v.schema v.top v.rows v.side_bytes c.args.column c.args.value.now c.self.invariant at c.value_representable.ensures c.requires.vector in
    let rows = c.in_ok-is_there.ensures.rows ∙ ap (λ (n : ℕ). with_changed c.args.rowid.now (with_cell n c.args.value.now) v.rows.rows) index in
    let added : c.bytes_added.result ≡ (if is_some (stored_of c.args.rowid.now v.rows.rows) then side_bytes c.args.value.now else 0) =
    c.bytes_added.ensures ∙ ap (λ (b : Bool). if b then side_bytes c.args.value.now else 0) c.in_ok-is_there.ensures.answer in
    let total = cell_total v.name v.schema v.top c.args.rowid.now c.args.column c.before-index.result at.kind c.args.value.now _ v.rows c.set_cell.new.self v.side_bytes c.cell_bytes-before.result c.bytes_added.result
    c.self.invariant setting is index rows c.cell_bytes-before.ensures added in
    let sound = sound-changed v.name v.schema v.top c.args.rowid.now (c.args.column - 1) at.kind c.args.value.now _ v.rows c.set_cell.new.self v.side_bytes (v.side_bytes - c.cell_bytes-before.result + c.bytes_added.result)
    c.self.invariant setting rows c.set_cell.ensures.shape total in
    sound

pub returns-clause-table : goal.returns-clause-table
returns-clause-table c =
    let v = c.self.inside in
    let columns = v.schema.columns in
    let sets = subst (λ (w : VersionState). can_set (kind_numbered w.table.schema.columns c.args.column) c.args.value.now ≡ true) (sym c.self.view_is) c.requires.column in
    let at = set_place columns c.args.column c.args.value.now sets in
    let is = cell_kind at.kind c.args.value.now at.sort at.fits c.requires.vector in
    let index : c.before-index.result ≡ before_in is_cell columns (c.args.column - 1) = search rules in
    let setting = cell_setting v.name v.schema v.top v.rows v.side_bytes c.args.column c.args.value.now c.self.invariant at c.value_representable.ensures c.requires.vector in
    let rows = c.in_ok-is_there.ensures.rows ∙ ap (λ (n : ℕ). with_changed c.args.rowid.now (with_cell n c.args.value.now) v.rows.rows) index in
    update_table c.args.self.now v.name v.schema v.top c.args.rowid.now c.args.column at.kind c.args.value.now _ v.rows c.set_cell.new.self v.side_bytes c.self.view_is c.self.invariant setting rows

pub returns-clause-answer : goal.returns-clause-answer
returns-clause-answer c =
    let v = c.self.inside in
    c.in_ok-is_there.ensures.answer ∙ was_some c.args.self.now v.name v.schema v.top v.rows c.args.rowid.now c.self.view_is

pub returns-clause-origin : goal.returns-clause-origin
returns-clause-origin c =
    let v = c.self.inside in
    made_origin c.args.self.now v.name v.schema v.top v.top v.rows c.set_cell.new.self v.side_bytes c.self.view_is c.self.invariant c.set_cell.ensures.origin
