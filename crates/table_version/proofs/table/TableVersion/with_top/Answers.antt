use Rattle.std.proofs.Common.{rules, ◌∙◌, ℤ, sym, ap, subst, w64, FitsSigned}
use Rattle.std.proofs.lemmas.Int.{to_z-of_z}
use Rattle.row_chunks.specs.Cells.{kinds_of}
use Rattle.table_version.specs.Kept.{widths_of}
use Rattle.table_version.specs.inner.StoredTables.{IsSound}
use Rattle.table_version.proofs.SoundLaws.{last_fits, sound-empty}
use Rattle.table_version.proofs.table.TableVersion.with_top.Goals as goal

pub invariant_of-result : goal.invariant_of-result
invariant_of-result c =
    let number : FitsSigned w64 c.args.top = search rules in
    let same = to_z-of_z w64 c.args.top c.ranges.top in
    let made = c.in_ok-rows.ensures in
    subst (λ (t : ℤ). IsSound c.args.name c.args.schema t c.in_ok-rows.rows 0) (sym same)
    (sound-empty c.args.name c.args.schema c.args.top c.in_ok-rows.rows c.requires.name c.requires.valid c.requires.top (last_fits c.args.top number) made.rows made.size (made.widths ∙ c.in_ok-widths.ensures ∙ ap widths_of c.as_slice.ensures) (made.kinds ∙ c.in_ok-kinds.ensures ∙ ap kinds_of c.as_slice-2.ensures))
