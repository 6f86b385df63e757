use Rattle.std.proofs.Common.{◌∙◌, ◌*◌, sym, ap}
use Rattle.row_model.specs.declared.schema.Schema.{Schema}
use Rattle.table_bodies.specs.Units.{unit_count, unit_width}
use Rattle.table_changes.proofs.RecordLaws.{on_ok}
use Rattle.table_changes.proofs.UnitLaws.{fill_new, fill_none}
use Rattle.table_changes.proofs.patch.fill.Goals as goal

pub returns-then-is_some : goal.returns-then-is_some
returns-then-is_some c =
    fill_none c.args.older.now.table c.args.kept.now c.args.key.now c.args.chunk c.requires.of c.requires.chunk c.args.changes.now
    (sym c.slots.ensures.there ∙ (sym c.is_some.ensures ∙ c.if-is_some.true))

pub returns : goal.returns
returns c =
    let size = ap (λ (s : Schema). unit_count c.args.kept.now s.chunk_size * unit_width c.args.kept.now) c.schema.ensures in
    on_ok c.push.result _ _ c.push.ensures.ok
    (fill_new c.args.older.now.table c.args.kept.now c.args.key.now c.args.chunk c.requires.of c.requires.chunk c.args.changes.now c.push.new.self c.record_bytes-bytes.result
    (sym c.slots.ensures.there ∙ (sym c.is_some.ensures ∙ c.if-is_some.false)) (c.record_bytes-bytes.ensures ∙ size))
