use Rattle.std.proofs.Common.{◌≡◌, length, sym, ◌∙◌, rules}
use Rattle.row_model.specs.Values.{met}
use Rattle.row_model.specs.Change.{Elsewhere, elsewhere, updated, update_refusals}
use Rattle.row_model.specs.Step.{with_tables}
use Rattle.plain_engine.specs.inner.ByteTotals.{total_beside}
use Rattle.plain_engine.proofs.RefusalLaws.{if_none-some, if_none-none}
use Rattle.row_model.proofs.SchemaLaws.{narrow_columns}
use Rattle.plain_engine.proofs.changes.update_all.Goals as goal

pub updated-requires : goal.updated-requires
updated-requires c = record { narrow = rw c.as_slice-columns.ensures (narrow_columns c.args.table.now.schema c.requires.valid.schema) }

pub met_count-count-requires : goal.met_count-count-requires
met_count-count-requires c = record { narrow = rw c.as_slice-columns.ensures (narrow_columns c.args.table.now.schema c.requires.valid.schema) }

pub returns-in-Some-clause-refused : goal.returns-in-Some-clause-refused
returns-in-Some-clause-refused c =
    let table = c.args.table.now in
    let update = c.args.update.now in
    let other : Elsewhere = elsewhere update.table (with_tables c.args.tables.now) in
    let totals : c.beside-totals.result ≡ total_beside other (updated table.schema.columns update table.rows) = search rules in
    let count : c.met_count-count.result ≡ length (met table.schema.columns update.where_terms table.rows) = search rules in
    let refusal = sym (c.update_refusal.ensures other table totals count) ∙ c.in-Some.is in
    if_none-some (update_refusals other table update) _ c.in-Some.refusal refusal

pub returns-clause-edited : goal.returns-clause-edited
returns-clause-edited c =
    let table = c.args.table.now in
    let update = c.args.update.now in
    let other : Elsewhere = elsewhere update.table (with_tables c.args.tables.now) in
    let totals : c.beside-totals.result ≡ total_beside other (updated table.schema.columns update table.rows) = search rules in
    let count : c.met_count-count.result ≡ length (met table.schema.columns update.where_terms table.rows) = search rules in
    let none = sym (c.update_refusal.ensures other table totals count) ∙ c.in_default.is in
    if_none-none (update_refusals other table update) _ none ∙ search rules
