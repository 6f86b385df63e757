use Rattle.std.proofs.Common.{ap, refl, sym, subst, true, [], List, inl, inr, ◌≡◌, ◌≢◌, ◌∙◌}
use Rattle.clap.specs.Words.{App, HasKind, found_of, Text, fault_of, is_simple, is_simple_and_free, IsAmong, Kinds, kind_of, matches_of, rows_of}
use Rattle.clap.specs.declared.parser.matches.Found.{Found}
use Rattle.clap.specs.declared.error.Error.{Error}
use Rattle.clap.specs.declared.error.kind.ErrorKind.{ErrorKind}
use Rattle.clap.specs.declared.error.kind.ErrorKind.TheVariants.{OutOfMemory}
use Rattle.clap.proofs.OnLiterals.{clap_on_literals}
use Rattle.vec_words.specs.inner.CommandLine.{command_line}
use Rattle.vec_words.proofs.command.matched.Goals as goal

simple : is_simple_and_free command_line ≡ true
unfolding clap_on_literals
simple = refl

plain : is_simple command_line ≡ true
unfolding clap_on_literals
plain = refl

not_empty : (kind : ErrorKind) (kinds : Kinds) → IsAmong kind kinds → kinds ≢ []
not_empty kind kinds among e = subst (IsAmong kind) e among

-- an error of another kind than memory comes of words that are refused
refused : (a : App) (words : List Text) (e : Error) → a ≡ command_line → (is_simple_and_free a ≡ true → HasKind (fault_of a words) e)
    → (kind_of e ≡ OutOfMemory → ⊥) → fault_of command_line words ≢ []
refused a words e is kinds memory =
    elim (subst (λ (b : App). HasKind (fault_of b words) e) is (kinds (ap is_simple_and_free is ∙ simple))) [
      | inl out ↦ absurd (memory out)
      | inr among ↦ not_empty (kind_of e) (fault_of command_line words) among
    ]

taken_by : (a : App) (words : List Text) (found : Found) (X : Type 0) → a ≡ command_line → (is_simple_and_free a ≡ true → fault_of a words ≡ [])
    → (is_simple a ≡ true → (rows_of found ≡ matches_of a words) × X) → (fault_of command_line words ≡ []) × (rows_of found ≡ matches_of command_line words)
taken_by a words found X is fault matches =
    let free : is_simple_and_free a ≡ true = ap is_simple_and_free is ∙ simple in
    (ap (λ (b : App). fault_of b words) (sym is) ∙ fault free, (matches (ap is_simple is ∙ plain)).0 ∙ ap (λ (b : App). matches_of b words) is)

pub returns-in-Ok-clause-ok : goal.returns-in-Ok-clause-ok
returns-in-Ok-clause-ok c = taken_by _ _ (found_of c.in-Ok.matches) _ c.in_ok-command.ensures c.in-Ok.ensures.kinds c.in-Ok.ensures.matches

pub returns : goal.returns
returns c = record {
  ok = tt;
  err = inr (refl, refused _ _ c.in-Err.error c.in_ok-command.ensures c.in-Err.ensures.kinds (λ out. c.in_default.not-OutOfMemory (c.kind.ensures ∙ out)));
}
