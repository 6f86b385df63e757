-- The text that is written for a well-formed statement spells the statement.
use Rattle.std.proofs.Common.{◌≡◌, ℕ, ◌≤◌, true, List, [], length, map, refl, sym, ◌∙◌, ap, subst}
use Rattle.vec_base.specs.declared.limits.TheConstants.{MOST_TEXT_BYTES}
use Rattle.vec_literal.specs.Lexemes.{Lexeme, lexeme_of, lexemes}
use Rattle.vec_literal.specs.Tokens.{tokens}
use Rattle.vec_literal.proofs.Adding.{Adds, has_no_parameter, adds_whole}
use Rattle.vec_literal.proofs.ValuesBefore.{ends_value}
use Rattle.grammar.specs.Parameters.{numbered_tokens}
use Rattle.grammar.proofs.LiteralLexemes.{none_numbered}
use Rattle.row_model.specs.declared.statement.Statement.{Statement}
use Rattle.row_model.specs.WellFormed.{IsWellFormed}
use Rattle.vec_sql.specs.CanonicalStatements.{statement_text}
use Rattle.sql_reader.specs.GivenStatements.{Use}
use Rattle.row_model.specs.RepresentableStatements.{IsRepresentableStatement}
use Rattle.sql_reader.specs.StatementReading.{SpellsStatement, ParametersFit}
use Rattle.vec_sql.proofs.TextLexemes.{statement_lexemes}
use Rattle.vec_sql.proofs.TextAdds.{adds_statement}
use Rattle.vec_sql.proofs.TextStatements.{statement_given}

-- no parameter is used, and none is given
none_fit : (all : List Use) → all ≡ [] → ParametersFit [] all
none_fit all e = subst (λ us. ParametersFit [] us) (sym e) (record { count = refl; taken = tt })

-- the tokens with their parameters numbered have the lexemes too
numbered_lexemes : (text : List ℕ) (ls : List Lexeme) → lexemes text ≡ ls → has_no_parameter ls ≡ true → map lexeme_of (numbered_tokens text) ≡ ls
numbered_lexemes text ls e none = ap (λ ts. map lexeme_of ts) (none_numbered 0 (tokens text 0) (ap (λ l. has_no_parameter l) e ∙ none)) ∙ e

written_spells : (s : Statement) → IsRepresentableStatement s → IsWellFormed s → length (statement_text s) ≤ MOST_TEXT_BYTES → SpellsStatement (statement_text s) [] s
written_spells s held formed short =
    let adds : Adds (statement_text s) ends_value (statement_lexemes s) = adds_statement s formed held in
    let (given, spelled, stands) = (statement_given s formed held).told (numbered_tokens (statement_text s)) (numbered_lexemes (statement_text s) (statement_lexemes s) (adds_whole refl adds) adds.constant) in
    record {
      within = short;
      given = given;
      spelled = spelled;
      passed = stands.passed;
      parameters = none_fit _ stands.unused;
      counts = stands.counts;
      rules = stands.rules;
      means = stands.means;
    }

-- so does a text that is the written one
pub text_spells : (text : List ℕ) (s : Statement) → text ≡ statement_text s → IsRepresentableStatement s → IsWellFormed s → length text ≤ MOST_TEXT_BYTES → SpellsStatement text [] s
text_spells text s e held formed short =
    subst (λ z. SpellsStatement z [] s) (sym e) (written_spells s held formed (subst (λ (z : List ℕ). length z ≤ MOST_TEXT_BYTES) e short))
