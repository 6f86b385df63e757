-- What a reader of statements has read.
use Rattle.std.proofs.Common.{◌≡◌, List, [], Ok, Err}
use Rattle.vec_literal.specs.Tokens.{Token}
use Rattle.grammar.specs.Grammar.{Spells, FailsAt}
use Rattle.grammar.specs.inner.Reading.{read}
use Rattle.grammar.proofs.Factoring.{same_fails}
use Rattle.grammar.proofs.Loops.{whole_found, more_fails, err_fails}
use Rattle.sql_reader.specs.declared.given.GivenStatement.{GivenStatement}
use Rattle.sql_reader.specs.inner.FactoredStatements.{factored_statement}
use Rattle.sql_reader.specs.StatementGrammar.{statement}
use Rattle.sql_reader.proofs.StatementLines.{statement_same, statement_decides}

pub spelled_whole : (ts left : List Token) (given : GivenStatement) → read factored_statement ts ≡ Ok (given, left) → left ≡ [] → Spells statement ts given
spelled_whole ts left given e n = statement_same.there.spelled ts given (whole_found factored_statement ts left given e n)

pub more_left : (ts left : List Token) (given : GivenStatement) → read factored_statement ts ≡ Ok (given, left) → (left ≡ [] → ⊥) → FailsAt statement ts left
more_left ts left given e n = same_fails factored_statement statement ts left statement_same (more_fails factored_statement statement_decides ts left given e n)

pub stopped : (ts left : List Token) → read factored_statement ts ≡ Err left → FailsAt statement ts left
stopped ts left e = same_fails factored_statement statement ts left statement_same (err_fails factored_statement statement_decides ts left e)
