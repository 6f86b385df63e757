-- What `clap` builds of the command, and that its checks and defaults add nothing.
use Rattle.std.proofs.Common.{◌≡◌, List, [], ◌∷◌, refl, codes, true, false, Bool}
use Rattle.std.specs.Prelude.{◌||◌, cond, bytes_eq}
use Rattle.std.specs.List.{list_any}
use Rattle.clap.specs.Walk.{Row, Rule, Text, with_default}
use Rattle.clap.specs.Simple.{built, filled, new_rule, with_index}
use Rattle.clap.specs.Faults.{check_fault, default_fault, given_default_fault}
use Rattle.clap.proofs.OnLiterals.{clap_on_literals}
use Rattle.vec_words.specs.inner.CommandLine.{option_rule, command_line}

abbrev pub ready : List Rule
ready =
    with_index 1 (filled (new_rule (codes "mode"))) ∷ filled (option_rule (codes "exchanges")) ∷ filled (option_rule (codes "listen")) ∷ filled (option_rule (codes "table"))
    ∷ filled (option_rule (codes "seed")) ∷ filled (option_rule (codes "rows")) ∷ filled (option_rule (codes "workers")) ∷ filled (option_rule (codes "journal")) ∷ filled (option_rule (codes "sqlite")) ∷ []

pub ready-is : (built command_line).top.rules ≡ ready
unfolding clap_on_literals
ready-is = refl

pub checks : (rows : List Row) → check_fault (built command_line).top rows false ≡ []
unfolding clap_on_literals
checks rows = refl

or-true : (b : Bool) → (b || true) ≡ true
or-true true = refl
or-true false = refl

pub no_default : (rows : List Row) (name : Text) → default_fault rows (filled (option_rule name)) ≡ []
no_default rows name = go (list_any (λ r. bytes_eq r.id name) rows)
  where
    go : (b : Bool) → cond (b || true) [] (given_default_fault (filled (option_rule name)) []) ≡ []
    go true = refl
    go false = refl

pub same_rows : (rows : List Row) (name : Text) → with_default rows (filled (option_rule name)) ≡ rows
same_rows rows name = go (list_any (λ r. bytes_eq r.id name) rows)
  where
    go : (b : Bool) → cond b rows rows ≡ rows
    go true = refl
    go false = refl
