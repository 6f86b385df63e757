use Rattle.std.proofs.Common.{ℕ, sym, ap, ◌∙◌, rules, SFits, w64}
use Rattle.std.specs.Prelude.{is_some, is_ok}
use Rattle.std.proofs.lemmas.Int.{to_z-of_z}
use Rattle.row_index.specs.Entries.{place_of}
use Rattle.row_store.proofs.TouchLaws.{place-some, keeps-put, put-given}
use Rattle.row_store.proofs.touched.touch_row.Goals as goal

pub returns-then-is_some-clause-touched : goal.returns-then-is_some-clause-touched
returns-then-is_some-clause-touched c =
    let fits : SFits w64 c.args.place.now.rowid = search rules in
    let same = to_z-of_z w64 c.args.place.now.rowid fits in
    sym (place-some c.args.place.now.rowid c.args.rows.now) ∙ ap (λ i. is_some {T = ℕ × ℕ} (place_of i c.args.rows.now)) (sym same) ∙ ap (is_some {T = ℕ × ℕ}) (sym c.place.ensures) ∙ sym c.is_some.ensures ∙ c.if-is_some.true

pub put-requires-clause-rowid : goal.put-requires-clause-rowid
put-requires-clause-rowid c =
    sym (place-some _ c.args.rows.now) ∙ ap (is_some {T = ℕ × ℕ}) (sym c.place.ensures) ∙ sym c.is_some.ensures ∙ c.if-is_some.false

pub returns-clause-wider : goal.returns-clause-wider
returns-clause-wider c = keeps-put (is_ok c.put.result) _ c.args.rows.now c.put.new.self c.put.ensures

pub returns-clause-touched : goal.returns-clause-touched
returns-clause-touched c =
    let fits : SFits w64 c.args.place.now.rowid = search rules in
    let same = to_z-of_z w64 c.args.place.now.rowid fits in
    rw same at (put-given c.put.result _ c.args.rows.now c.put.new.self c.put.ensures)
