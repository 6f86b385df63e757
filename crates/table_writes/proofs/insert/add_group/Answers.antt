use Rattle.std.proofs.Common.{rules, ◌≡◌, ◌∙◌, List, None, ap, sym}
use Rattle.vec_base.specs.declared.value.Value.{Value}
use Rattle.row_model.specs.Change.{new_row}
use Rattle.row_model.specs.RefusalOrder.{first}
use Rattle.shadow_records.specs.PlacedTables.{plain}
use Rattle.table_writes.specs.Writing.{elsewhere_of}
use Rattle.table_writes.specs.inner.TakenGroups.{refusals_of}
use Rattle.table_writes.proofs.InsertLaws.{inserted_row, memory_alone, ready, refused_by_memory}
use Rattle.table_writes.proofs.insert.add_group.Goals as goal

pub insert-requires : goal.insert-requires
insert-requires c =
    let table = c.args.table.now.table in
    let other = elsewhere_of c.args.beside in
    let values : c.in-Ok.values ≡ (new_row (plain table) c.args.places.now c.args.given.now).values = search rules in
    let none : first (refusals_of other (plain table) c.given_rowid-rowid.result c.in-Ok.values c.args.given.now) ≡ None =
    sym (c.row_refusal.ensures ∙ ap (λ (vs : List Value). first (refusals_of other (plain table) c.given_rowid-rowid.result vs c.args.given.now)) c.as_slice.ensures) ∙ c.in_default-row_refusal.is in
    (ready other table c.args.places.now c.args.given.now c.given_rowid-rowid.result c.in-Ok.values c.known.ensures c.requires.listed c.requires.group c.given_rowid-rowid.ensures values none).fits

pub returns-clause-refused : goal.returns-clause-refused
returns-clause-refused c =
    let table = c.args.table.now.table in
    let other = elsewhere_of c.args.beside in
    let values : c.in-Ok.values ≡ (new_row (plain table) c.args.places.now c.args.given.now).values = search rules in
    let none : first (refusals_of other (plain table) c.given_rowid-rowid.result c.in-Ok.values c.args.given.now) ≡ None =
    sym (c.row_refusal.ensures ∙ ap (λ (vs : List Value). first (refusals_of other (plain table) c.given_rowid-rowid.result vs c.args.given.now)) c.as_slice.ensures) ∙ c.in_default-row_refusal.is in
    let is = ready other table c.args.places.now c.args.given.now c.given_rowid-rowid.result c.in-Ok.values c.known.ensures c.requires.listed c.requires.group c.given_rowid-rowid.ensures values none in
    refused_by_memory other table c.args.places.now c.args.given.now c.insert.result (memory_alone table c.given_rowid-rowid.result c.in-Ok.values c.insert.result is.clear c.insert.ensures.refused)

pub returns-clause-added : goal.returns-clause-added
returns-clause-added c =
    let table = c.args.table.now.table in
    let other = elsewhere_of c.args.beside in
    let values : c.in-Ok.values ≡ (new_row (plain table) c.args.places.now c.args.given.now).values = search rules in
    let none : first (refusals_of other (plain table) c.given_rowid-rowid.result c.in-Ok.values c.args.given.now) ≡ None =
    sym (c.row_refusal.ensures ∙ ap (λ (vs : List Value). first (refusals_of other (plain table) c.given_rowid-rowid.result vs c.args.given.now)) c.as_slice.ensures) ∙ c.in_default-row_refusal.is in
    let is = ready other table c.args.places.now c.args.given.now c.given_rowid-rowid.result c.in-Ok.values c.known.ensures c.requires.listed c.requires.group c.given_rowid-rowid.ensures values none in
    inserted_row other table c.insert.new.self.table c.args.places.now c.args.given.now c.given_rowid-rowid.result c.in-Ok.values c.insert.result is c.insert.ensures.inserted
