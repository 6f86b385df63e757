use Rattle.std.proofs.Common.{◌≡◌, ◌≤◌, ◌+◌, ◌∷◌, ◌∙◌, List, length, ap, sym, subst}
use Rattle.row_model.specs.declared.schema.Column.{Column}
use Rattle.row_model.specs.declared.schema.Schema.{Schema}
use Rattle.row_model.specs.declared.schema.TheConstants.{MOST_COLUMNS}
use Rattle.row_model.specs.declared.statement.Assign.{Assign}
use Rattle.row_model.specs.Change.{with_rows}
use Rattle.row_model.specs.ColumnNames.{place_of}
use Rattle.shadow_records.specs.PlacedTables.{plain, plain_rows}
use Rattle.std.specs.List.{AllByRecursion}
use Rattle.std.proofs.lemmas.Result.{on_ok_weaker}
use Rattle.table_writes.specs.inner.NewValues.{declared_number}
use Rattle.table_writes.specs.inner.OneByOne.{set_one}
use Rattle.table_writes.specs.inner.SetColumns.{IsSettable}
use Rattle.row_model.proofs.SchemaLaws.{narrow_columns}
use Rattle.table_writes.proofs.UpdateLaws.{no_sets, set_nothing, set_then}
use Rattle.table_writes.proofs.update.+set_row.Goals as goal

pub returns-in_default-clause-changed : goal.returns-in_default-clause-changed
returns-in_default-clause-changed t c = set_nothing c.args.table.now.table c.args.sets.now c.args.rowid.now (no_sets c.args.sets.now (c.in_default.ensures {u = tt}).cases)

pub number_of-number-requires : goal.number_of-number-requires
number_of-number-requires t c =
    let table = c.args.table.now.table in record {
      narrow = subst (λ (cs : List Column). length cs ≤ MOST_COLUMNS) (sym (c.as_slice.ensures ∙ ap (λ (s : Schema). s.columns) c.schema.ensures)) (narrow_columns table.schema c.known.ensures.valid.schema);
    }

pub returns-clause-changed : goal.returns-clause-changed
returns-clause-changed t c =
    let table = c.args.table.now.table in
    let columns = table.schema.columns in
    let set = c.in-Some.set.now in
    let more = c.in-Some.more.now in
    let parts : (c.args.sets.now ≡ set ∷ more) × (length more + 1 ≡ length c.args.sets.now) = (c.in-Some.ensures {u = tt}).cases in
    let same : c.as_slice.result.now ≡ columns = c.as_slice.ensures ∙ ap (λ (s : Schema). s.columns) c.schema.ensures in
    let number : c.number_of-number.result ≡ declared_number (place_of columns set.column) = c.number_of-number.ensures ∙ ap (λ (cs : List Column). declared_number (place_of cs set.column)) same in
    let settable = subst (λ (ss : List Assign). AllByRecursion (IsSettable columns) ss) parts.0 c.requires.sets in
    on_ok_weaker c.set_row.result
    (λ rest. set_then table c.update.new.self.table c.set_row.new.table.table set more c.args.rowid.now c.number_of-number.result settable.0 number (c.in_ok-update.ensures {u = tt}).table rest
    ∙ ap (λ (ss : List Assign). with_rows (plain table) (set_one columns ss c.args.rowid.now (plain_rows table.rows))) (sym parts.0)) c.set_row.ensures.changed
