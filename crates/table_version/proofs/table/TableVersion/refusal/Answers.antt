use Rattle.std.proofs.Common.{◌≡◌, ◌∙◌, sym, subst, true}
use Rattle.table_version.specs.Inserting.{are_fitting}
use Rattle.table_version.specs.Versions.{VersionState}
use Rattle.table_version.proofs.PutLaws.{first_refusal, rows_few}
use Rattle.table_version.proofs.table.TableVersion.refusal.Goals as goal

pub first_refusal-requires : goal.first_refusal-requires
first_refusal-requires c = rows_few c.self.inside.name c.self.inside.schema c.self.inside.top c.self.inside.rows c.self.inside.side_bytes c.self.invariant

pub returns : goal.returns
returns c =
    let fits = subst (λ (v : VersionState). are_fitting v.table.schema.columns c.args.values.now ≡ true) (sym c.self.view_is) c.requires in
    rw (← c.self.view_is) (c.first_refusal.ensures ∙ sym (first_refusal c.self.inside.name c.self.inside.schema c.self.inside.top c.self.inside.rows c.self.inside.side_bytes c.args.rowid.now c.args.values.now c.self.invariant fits))
