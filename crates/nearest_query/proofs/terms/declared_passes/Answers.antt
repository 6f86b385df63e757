use Rattle.std.proofs.Common.{◌∙◌, ap, sym, rules, w64}
use mir.Val.{SFits}
use Rattle.std.proofs.lemmas.Int.{to_z-of_z}
use Rattle.row_model.specs.Values.{passes, value_at}
use Rattle.row_model.specs.declared.schema.Place.TheVariants.{Declared}
use Rattle.vec_base.specs.declared.value.Value.TheVariants.{Int}
use Rattle.nearest_query.proofs.TermFacts.{own_rowid, stored_at}
use Rattle.nearest_query.proofs.terms.declared_passes.Goals as goal

pub returns-in-IntKey : goal.returns-in-IntKey
returns-in-IntKey c p there =
    let same = own_rowid c.args.table.now.table.rows c.args.rowid.now p there in
    let fits : SFits w64 c.args.rowid.now = search rules in
    c.passes.ensures ∙ ap (λ n. passes c.args.test.now (Int n)) (to_z-of_z w64 c.args.rowid.now fits ∙ sym same) ∙ ap (λ k. passes c.args.test.now (value_at (Declared c.args.number k) p.row)) (sym c.in-IntKey.is)

pub returns-in_default : goal.returns-in_default
returns-in_default c p there =
    c.stored_passes.ensures p there ∙ ap (passes c.args.test.now) (stored_at c.args.table.now.table.schema.columns c.args.number c.args.kind p c.requires.numbered c.in_default.not-IntKey)
