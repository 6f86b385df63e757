use Rattle.std.proofs.Common.{◌∙◌, List, ap, sym}
use Rattle.row_model.specs.RefusalOrder.{first}
use Rattle.row_model.specs.declared.schema.Column.{Column}
use Rattle.row_model.specs.declared.schema.Schema.{Schema}
use Rattle.row_model.proofs.SchemaLaws.{faultless}
use Rattle.table_version.specs.Kept.{id_in}
use Rattle.table_writes.specs.inner.TakenGroups.{taken_text}
use Rattle.table_writes.proofs.RefusalLaws.{taken_id-placed}
use Rattle.table_writes.proofs.insert.taken_id.Goals as goal

pub returns : goal.returns
returns c =
    let table = c.args.table.now.table in
    let columns = c.as_slice.ensures ∙ ap (λ (s : Schema). s.columns) c.schema.ensures in
    let id = c.text_id-id.ensures ∙ ap (λ (cs : List Column). id_in cs c.args.values.now) columns in
    c.taken_text.ensures ∙ ap (λ o. first (taken_text table.schema.columns o table.rows)) id
    ∙ ap first (sym (taken_id-placed table.schema.columns c.args.values.now table.rows (faultless table.schema c.known.ensures.valid.schema.rules).keys))
