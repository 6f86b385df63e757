use Rattle.std.proofs.Common.{◌≡◌, ◌∷◌, ◌+◌, ◌∙◌, pos, ap, drop, get_or, refl}
use Rattle.shadow_records.specs.PlacedTables.{PlacedTable}
use Rattle.table_writes.specs.inner.OneByOne.{without}
use Rattle.table_writes.proofs.OneByOneLaws.{drop_next}
use Rattle.table_writes.proofs.UpdateLaws.{goes_on, plain_removed}
use Rattle.table_writes.proofs.delete.remove_rows.Goals as goal

pub loop-rowid-preserved : goal.loop-rowid-preserved
loop-rowid-preserved c =
    let removed = (c.in_ok-remove.ensures {u = tt}).table in
    let all = c.args.rowids.now in
    let k = c.loop-rowid.rowid-index in
    let rowid = get_or all k (pos 0) in
    let now = c.loop-rowid.table.table in
    let new = c.remove.new.self.table in
    let name : new.name ≡ now.name = ap (λ (t : PlacedTable). t.name) removed in
    let schema : new.schema ≡ now.schema = ap (λ (t : PlacedTable). t.schema) removed in
    let next : drop k all ≡ rowid ∷ drop (k + 1) all = drop_next all k rowid (pos 0) c.loop-rowid-test.true refl in
    record {
      way = goes_on c.args.table.now.table now new without all (drop k all) (drop (k + 1) all) rowid c.loop-rowid.invariant.way next (plain_removed now new rowid removed) name;
      name = name ∙ c.loop-rowid.invariant.name;
      schema = schema ∙ c.loop-rowid.invariant.schema;
      origin = λ base follows. c.remove.ensures.origin base (c.loop-rowid.invariant.origin base follows);
    }
