use Rattle.std.proofs.Common.{◌≡◌, ap, ◌∙◌, rules, SFits, w64, Some}
use Rattle.std.proofs.lemmas.Int.{to_z-of_z}
use Rattle.row_index.specs.Entries.{without}
use Rattle.row_store.specs.inner.Views.{AreTied}
use Rattle.row_store.proofs.TieLaws.{unentered-rows, unentered-tied, given-tied, given-row, same_rows, entry-without}
use Rattle.row_store.proofs.claims.settle.Goals as goal

pub returns-in_err-give_back-clause-tied : goal.returns-in_err-give_back-clause-tied
returns-in_err-give_back-clause-tied c =
    let parts = c.args.parts.now in
    let left = c.in-Some.left in
    let fits : SFits w64 left.rowid = search rules in
    let same = to_z-of_z w64 left.rowid fits in
    let tied : AreTied parts c.args.places.now c.args.index.now (Some left) = rw c.in-Some.is at c.requires in
    let index : c.remove.new.self ≡ without left.rowid c.args.index.now = (c.in_ok-remove.ensures {u = tt}).entries ∙ ap (λ i. without i c.args.index.now) same in
    rw (c.in_err-give_back.ensures.kept, index, c.in-Some.is) (unentered-tied parts c.args.places.now c.args.index.now left tied c.known.ensures.rising)

pub returns-in_err-give_back-clause-rows : goal.returns-in_err-give_back-clause-rows
returns-in_err-give_back-clause-rows c =
    let parts = c.args.parts.now in
    let left = c.in-Some.left in
    let fits : SFits w64 left.rowid = search rules in
    let same = to_z-of_z w64 left.rowid fits in
    let tied : AreTied parts c.args.places.now c.args.index.now (Some left) = rw c.in-Some.is at c.requires in
    let index : c.remove.new.self ≡ without left.rowid c.args.index.now = (c.in_ok-remove.ensures {u = tt}).entries ∙ ap (λ i. without i c.args.index.now) same in
    rw (c.in_err-give_back.ensures.kept, index) (unentered-rows parts c.args.places.now c.args.index.now left tied c.known.ensures.rising)

pub returns-clause-tied : goal.returns-clause-tied
returns-clause-tied c =
    let parts = c.args.parts.now in
    let left = c.in-Some.left in
    let fits : SFits w64 left.rowid = search rules in
    let same = to_z-of_z w64 left.rowid fits in
    let tied : AreTied parts c.args.places.now c.args.index.now (Some left) = rw c.in-Some.is at c.requires in
    let index : c.remove.new.self ≡ without left.rowid c.args.index.now = (c.in_ok-remove.ensures {u = tt}).entries ∙ ap (λ i. without i c.args.index.now) same in
    let now = unentered-tied parts c.args.places.now c.args.index.now left tied c.known.ensures.rising in
    rw index (given-tied parts c.args.places.now c.give_back.new.self (without left.rowid c.args.index.now) left c.in_ok-give_back.field-0 now (entry-without left.rowid c.args.index.now) c.in_ok-give_back.ensures.freed)

pub returns-clause-rows : goal.returns-clause-rows
returns-clause-rows c =
    let parts = c.args.parts.now in
    let left = c.in-Some.left in
    let fits : SFits w64 left.rowid = search rules in
    let same = to_z-of_z w64 left.rowid fits in
    let tied : AreTied parts c.args.places.now c.args.index.now (Some left) = rw c.in-Some.is at c.requires in
    let index : c.remove.new.self ≡ without left.rowid c.args.index.now = (c.in_ok-remove.ensures {u = tt}).entries ∙ ap (λ i. without i c.args.index.now) same in
    let now = unentered-tied parts c.args.places.now c.args.index.now left tied c.known.ensures.rising in
    let each = given-row parts c.args.places.now c.give_back.new.self (without left.rowid c.args.index.now) left c.in_ok-give_back.field-0 now (entry-without left.rowid c.args.index.now) c.in_ok-give_back.ensures.freed in
    rw index (same_rows parts c.args.places.now c.give_back.new.self (without left.rowid c.args.index.now) each ∙ unentered-rows parts c.args.places.now c.args.index.now left tied c.known.ensures.rising)
