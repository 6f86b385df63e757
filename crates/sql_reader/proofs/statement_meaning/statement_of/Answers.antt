use Rattle.std.proofs.Common.{List, subst, sym}
use Rattle.vec0_columns.specs.declared.text.Arg.{Arg}
use Rattle.sql_reader.specs.declared.given.GivenStatement.{GivenStatement}
use Rattle.sql_reader.specs.declared.given.GivenStatement.TheVariants as statements
use Rattle.sql_reader.specs.inner.PartMeanings.{IsStatementMeaning}
use Rattle.sql_reader.proofs.statement_meaning.statement_of.Goals as goal

pub returns-in-Create : goal.returns-in-Create
returns-in-Create c =
    subst (λ (g : GivenStatement). IsStatementMeaning c.args.params.now g c.create_of.result) (sym c.in-Create.is)
    (subst (λ (z : List Arg). IsStatementMeaning c.args.params.now (statements.Create c.in-Create.table z) c.create_of.result) c.as_slice.ensures (c.create_of.ensures c.args.params.now))
