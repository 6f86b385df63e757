use Rattle.std.proofs.Common.{rules, ◌≡◌, ◌≤◌, ◌∙◌, List, length, ap, subst, sym}
use Rattle.std.specs.List.{AllByRecursion}
use Rattle.vec_base.specs.declared.value.Value.{Value}
use Rattle.row_model.specs.RepresentableStatements.{AreRepresentable}
use Rattle.row_model.specs.declared.schema.Column.{Column}
use Rattle.row_model.specs.declared.schema.Place.{Place}
use Rattle.row_model.specs.declared.schema.Schema.{Schema}
use Rattle.row_model.specs.declared.schema.TheConstants.{MOST_COLUMNS}
use Rattle.row_model.proofs.SchemaLaws.{narrow_columns}
use Rattle.table_writes.specs.Writing.{places_named}
use Rattle.table_writes.specs.inner.TakenGroups.{IsStoredPlace, IsTakenGroup}
use Rattle.table_writes.proofs.InsertLaws.{checked_groups}
use Rattle.table_writes.proofs.insert.insert_rows.Goals as goal

pub places_of-requires : goal.places_of-requires
places_of-requires c =
    let table = c.args.table.now.table in record {
      narrow = subst (λ (cs : List Column). length cs ≤ MOST_COLUMNS) (sym (c.as_slice-columns.ensures ∙ ap (λ (s : Schema). s.columns) c.schema.ensures)) (narrow_columns table.schema c.known.ensures.valid.schema);
    }

pub add_groups-requires-clause-listed : goal.add_groups-requires-clause-listed
add_groups-requires-clause-listed c =
    let table = c.args.table.now.table in
    let columns = table.schema.columns in
    let insert = c.args.insert.now in
    let held : AllByRecursion AreRepresentable insert.rows = search rules in
    let places : c.as_slice-3.result.now ≡ places_named columns insert.columns = search rules in
    subst (λ (ps : List Place). AllByRecursion (IsStoredPlace columns) ps) (sym places) (checked_groups columns insert c.requires.checked c.requires.formed held).listed

pub add_groups-requires-clause-groups : goal.add_groups-requires-clause-groups
add_groups-requires-clause-groups c =
    let table = c.args.table.now.table in
    let columns = table.schema.columns in
    let insert = c.args.insert.now in
    let held : AllByRecursion AreRepresentable insert.rows = search rules in
    let places : c.as_slice-3.result.now ≡ places_named columns insert.columns = search rules in
    let rows : c.as_slice-4.result.now ≡ insert.rows = search rules in
    subst (λ (rs : List (List Value)). AllByRecursion (IsTakenGroup columns c.as_slice-3.result.now) rs) (sym rows)
    (subst (λ (ps : List Place). AllByRecursion (IsTakenGroup columns ps) insert.rows) (sym places) (checked_groups columns insert c.requires.checked c.requires.formed held).groups)
