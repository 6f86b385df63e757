use Rattle.std.proofs.Common.{rules, sym, ◌∙◌}
use Rattle.std.proofs.lemmas.Bool.{false≢true}
use Rattle.std.proofs.lemmas.Fn.{always_returns_same}
use Rattle.row_model.proofs.RowLaws.{compared, rising_searchable, gap_found, no_rowid_at}
use Rattle.plain_engine.proofs.NearLaws.{row_with_at}
use Rattle.plain_engine.proofs.nearest.row_with.Goals as goal

pub unreachable-requires : goal.unreachable-requires
unreachable-requires c =
    let gap = gap_found c.args.rowid.now c.args.rows.now c.in-Err.field-0
    (c.in-Err.ensures.position (compared c.args.rowid.now) (always_returns_same _ _ _ (λ a r f called. search rules)) (rising_searchable c.args.rowid.now c.args.rows.now c.requires.rising)) in
    false≢true (sym (no_rowid_at c.args.rowid.now c.args.rows.now c.in-Err.field-0 gap) ∙ c.requires.there)

pub returns : goal.returns
returns c =
    let found = c.in-Ok.ensures.position (compared c.args.rowid.now) (always_returns_same _ _ _ (λ a r f called. search rules)) c.index-rows-at.result in
    c.index-rows-at.is ∙ sym (row_with_at c.args.rowid.now c.args.rows.now c.in-Ok.at c.index-rows-at.result c.requires.rising c.in-Ok.ensures.bound found)
