use Rattle.std.proofs.Common.{rules, arith, ◌∙◌, ◌≡◌, ◌-◌, ℕ, pos, true, sym, ap, subst, length, List}
use Rattle.std.specs.Prelude.{slice_index}
use Rattle.row_model.specs.Groups.{before_in}
use Rattle.row_model.specs.Schemas.{is_vector}
use Rattle.row_model.proofs.ValidityRows.{valid_plainly}
use Rattle.row_store.specs.StoredRows.{with_changed, with_vector}
use Rattle.table_version.specs.Kept.{widths_of}
use Rattle.table_version.specs.Versions.{VersionState}
use Rattle.table_version.specs.Viewed.{can_set, is_kind_of, kind_numbered}
use Rattle.table_version.proofs.ChangedLaws.{sound-changed, vector_settable}
use Rattle.table_version.proofs.PutLaws.{made_origin}
use Rattle.table_version.proofs.RemoveLaws.{was_some}
use Rattle.table_version.proofs.UpdateLaws.{set_place, update_table, vector_kind, vector_setting, vector_total, width_at}
use Rattle.table_version.proofs.ViewLaws.{before_low}
use Rattle.table_version.proofs.WeavingLaws.{value-width}
use Rattle.table_version.proofs.table.TableVersion.set_vector.Goals as goal

pub set_vector-requires-clause-column : goal.set_vector-requires-clause-column
set_vector-requires-clause-column c =
    let v = c.self.inside in
    let columns = v.schema.columns in
    let sets = subst (λ (w : VersionState). can_set (kind_numbered w.table.schema.columns c.args.column) c.args.value.now ≡ true) (sym c.self.view_is) c.requires.column in
    let at = set_place columns c.args.column c.args.value.now sets in
    let is = vector_kind at.kind c.args.value.now c.args.vector.now at.sort at.fits c.requires.vector in
    let number : c.before-number.result ≡ before_in is_vector columns (c.args.column - 1) = search rules in
    let low = before_low columns (c.args.column - 1) (ap (is_kind_of is_vector) at.there ∙ is) in
    let same = ap length c.self.invariant.widths in
    omega (arith, number, low, same)

pub set_vector-requires-clause-width : goal.set_vector-requires-clause-width
set_vector-requires-clause-width c =
    let v = c.self.inside in
    let columns = v.schema.columns in
    let sets = subst (λ (w : VersionState). can_set (kind_numbered w.table.schema.columns c.args.column) c.args.value.now ≡ true) (sym c.self.view_is) c.requires.column in
    let at = set_place columns c.args.column c.args.value.now sets in
    let is = vector_kind at.kind c.args.value.now c.args.vector.now at.sort at.fits c.requires.vector in
    let number : c.before-number.result ≡ before_in is_vector columns (c.args.column - 1) = search rules in
    let fits = valid_plainly at.kind (pos 0) c.args.value.now (vector_settable at.kind is).0.no_int at.fits in
    let wide = value-width at.kind (pos 0) c.args.value.now c.args.vector.now fits c.requires.vector in
    sym (ap (λ (ws : List ℕ). slice_index ws c.before-number.result) c.self.invariant.widths
    ∙ ap (λ (n : ℕ). slice_index (widths_of columns) n) number
    ∙ width_at columns (c.args.column - 1) at.kind (length c.args.vector.now) 0 at.there wide)

pub returns-in_err-is_there-clause-origin : goal.returns-in_err-is_there-clause-origin
returns-in_err-is_there-clause-origin c =
    let v = c.self.inside in
    made_origin c.args.self.now v.name v.schema v.top v.top v.rows c.set_vector.new.self v.side_bytes c.self.view_is c.self.invariant c.set_vector.ensures.origin

pub invariant_of-self-2 : goal.invariant_of-self-2
invariant_of-self-2 c =
    let v = c.self.inside in
    let columns = v.schema.columns in
    let sets = subst (λ (w : VersionState). can_set (kind_numbered w.table.schema.columns c.args.column) c.args.value.now ≡ true) (sym c.self.view_is) c.requires.column in
    let at = set_place columns c.args.column c.args.value.now sets in
    let is = vector_kind at.kind c.args.value.now c.args.vector.now at.sort at.fits c.requires.vector in
    let number : c.before-number.result ≡ before_in is_vector columns (c.args.column - 1) = search rules in
    let setting = vector_setting v.name v.schema v.top v.rows v.side_bytes c.args.column c.args.value.now c.args.vector.now c.self.invariant at c.value_representable.ensures c.requires.vector in
    let rows = c.in_ok-is_there.ensures.rows ∙ ap (λ (n : ℕ). with_changed c.args.rowid.now (with_vector n c.args.vector.now) v.rows.rows) number in
    let total = vector_total v.name v.schema v.top c.args.rowid.now c.args.column at.kind c.args.value.now c.args.vector.now _ v.rows c.set_vector.new.self v.side_bytes c.self.invariant setting is c.requires.vector rows in
    sound-changed v.name v.schema v.top c.args.rowid.now (c.args.column - 1) at.kind c.args.value.now _ v.rows c.set_vector.new.self v.side_bytes v.side_bytes c.self.invariant setting rows c.set_vector.ensures.shape total

pub returns-clause-table : goal.returns-clause-table
returns-clause-table c =
    let v = c.self.inside in
    let columns = v.schema.columns in
    let sets = subst (λ (w : VersionState). can_set (kind_numbered w.table.schema.columns c.args.column) c.args.value.now ≡ true) (sym c.self.view_is) c.requires.column in
    let at = set_place columns c.args.column c.args.value.now sets in
    let is = vector_kind at.kind c.args.value.now c.args.vector.now at.sort at.fits c.requires.vector in
    let number : c.before-number.result ≡ before_in is_vector columns (c.args.column - 1) = search rules in
    let setting = vector_setting v.name v.schema v.top v.rows v.side_bytes c.args.column c.args.value.now c.args.vector.now c.self.invariant at c.value_representable.ensures c.requires.vector in
    let rows = c.in_ok-is_there.ensures.rows ∙ ap (λ (n : ℕ). with_changed c.args.rowid.now (with_vector n c.args.vector.now) v.rows.rows) number in
    update_table c.args.self.now v.name v.schema v.top c.args.rowid.now c.args.column at.kind c.args.value.now _ v.rows c.set_vector.new.self v.side_bytes c.self.view_is c.self.invariant setting rows

pub returns-clause-answer : goal.returns-clause-answer
returns-clause-answer c =
    let v = c.self.inside in
    c.in_ok-is_there.ensures.answer ∙ was_some c.args.self.now v.name v.schema v.top v.rows c.args.rowid.now c.self.view_is

pub returns-clause-origin : goal.returns-clause-origin
returns-clause-origin c =
    let v = c.self.inside in
    made_origin c.args.self.now v.name v.schema v.top v.top v.rows c.set_vector.new.self v.side_bytes c.self.view_is c.self.invariant c.set_vector.ensures.origin
