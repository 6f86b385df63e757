use Rattle.std.proofs.Common.{ℤ, pos, [], rules, sym, subst}
use Rattle.std.proofs.lemmas.Fn.{always_returns_same}
use Rattle.row_model.specs.declared.row.Row.{Row}
use Rattle.row_model.proofs.RowLaws.{compared, rising_searchable, has_rowid_at, IsGap, gap_found, no_rowid_at, with_row-insert}
use Rattle.plain_engine.proofs.insert.free_place.Goals as goal

some_row : Row
some_row = record { rowid = pos 0; values = [] }

pub returns-in-Ok-clause-taken : goal.returns-in-Ok-clause-taken
returns-in-Ok-clause-taken c =
    has_rowid_at c.args.rowid.now c.args.rows.now c.in-Ok.field-0 some_row c.in-Ok.ensures.bound
    (c.in-Ok.ensures.position (compared c.args.rowid.now) (always_returns_same _ _ _ (λ a r f called. search rules)) some_row)

pub returns-in-Err-clause-free : goal.returns-in-Err-clause-free
returns-in-Err-clause-free c =
    no_rowid_at c.args.rowid.now c.args.rows.now c.in-Err.at
    (gap_found c.args.rowid.now c.args.rows.now c.in-Err.at
    (c.in-Err.ensures.position (compared c.args.rowid.now) (always_returns_same _ _ _ (λ a r f called. search rules)) (rising_searchable c.args.rowid.now c.args.rows.now c.requires)))

pub returns-in-Err-clause-place : goal.returns-in-Err-clause-place
returns-in-Err-clause-place c = λ row same.
    let gap = gap_found c.args.rowid.now c.args.rows.now c.in-Err.at
    (c.in-Err.ensures.position (compared c.args.rowid.now) (always_returns_same _ _ _ (λ a r f called. search rules)) (rising_searchable c.args.rowid.now c.args.rows.now c.requires)) in
    sym (with_row-insert row c.args.rows.now c.in-Err.at c.in-Err.ensures.bound (subst (λ (z : ℤ). IsGap z c.args.rows.now c.in-Err.at) (sym same) gap))
