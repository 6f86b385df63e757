-- What `clap` makes of the words is what the scan gives.
use Rattle.std.proofs.Common.{◌≡◌, ℕ, List, [], ◌∷◌, Option, Some, None, refl, ap, ap₂, codes, true, false, Bool, ◌∙◌}
use Rattle.std.specs.Prelude.{cond, drop, is_some, ◌||◌}
use Rattle.clap.specs.Walk.{Row, Rule, Text, has_row, settled, walk, nothing_held, with_default}
use Rattle.clap.specs.Simple.{built, entered, filled, matches_of, new_rule, with_index}
use Rattle.clap.specs.Faults.{default_fault, defaults_fault, entered_fault, fault_of, given_default_fault, settle_fault, walk_fault}
use Rattle.clap.specs.Kinds.{Kinds, or_else}
use Rattle.clap.proofs.OnLiterals.{clap_on_literals}
use Rattle.vec_words.proofs.Scanning.{scan}
use Rattle.vec_words.specs.inner.CommandLine.{option_rule, command_line}
use Rattle.vec_words.proofs.Building.{no_default, ready, same_rows}
use Rattle.vec_words.proofs.Turns.{at_idle, end_of, finish, own, plain_held, top}
use Rattle.vec_words.proofs.Walking.{Fine, walk-plain}

no_below : (stop : Option (Text × List Text)) → entered_fault (built command_line) stop ≡ []
no_below None = refl
no_below (Some p) = refl

not_entered : (stop : Option (Text × List Text)) → is_some (entered (built command_line) stop) ≡ false
not_entered None = refl
not_entered (Some p) = refl

both : (t u : Kinds) → t ≡ [] → u ≡ [] → or_else t u ≡ []
both t u p q = rw p q

abbrev mode_rule : Rule
mode_rule = with_index 1 (filled (new_rule (codes "mode")))

abbrev rule_at : List ℕ → Rule
rule_at name = filled (option_rule name)

mode_default : (rows : List Row) → default_fault rows mode_rule ≡ []
mode_default rows = go (has_row (codes "mode") rows)
  where
    go : (b : Bool) → cond (b || true) [] (given_default_fault mode_rule []) ≡ []
    go true = refl
    go false = refl

mode_same : (rows : List Row) → with_default rows mode_rule ≡ rows
mode_same rows = go (has_row (codes "mode") rows)
  where
    go : (b : Bool) → cond b rows rows ≡ rows
    go true = refl
    go false = refl

-- the rows with the defaults of the first so many arguments, of which there are none
abbrev with_mode : List Row → List Row
with_mode rows = with_default rows mode_rule

abbrev with_exchanges : List Row → List Row
with_exchanges rows = with_default (with_mode rows) (rule_at (codes "exchanges"))

abbrev with_listen : List Row → List Row
with_listen rows = with_default (with_exchanges rows) (rule_at (codes "listen"))

abbrev with_table : List Row → List Row
with_table rows = with_default (with_listen rows) (rule_at (codes "table"))

abbrev with_seed : List Row → List Row
with_seed rows = with_default (with_table rows) (rule_at (codes "seed"))

abbrev with_rows : List Row → List Row
with_rows rows = with_default (with_seed rows) (rule_at (codes "rows"))

abbrev with_workers : List Row → List Row
with_workers rows = with_default (with_rows rows) (rule_at (codes "workers"))

abbrev with_journal : List Row → List Row
with_journal rows = with_default (with_workers rows) (rule_at (codes "journal"))

defaults : (rows : List Row) → defaults_fault rows ready ≡ []
unfolding clap_on_literals
defaults rows =
    both (default_fault rows mode_rule) _ (mode_default rows)
    (both (default_fault (with_mode rows) (rule_at (codes "exchanges"))) _ (no_default (with_mode rows) (codes "exchanges"))
    (both (default_fault (with_exchanges rows) (rule_at (codes "listen"))) _ (no_default (with_exchanges rows) (codes "listen"))
    (both (default_fault (with_listen rows) (rule_at (codes "table"))) _ (no_default (with_listen rows) (codes "table"))
    (both (default_fault (with_table rows) (rule_at (codes "seed"))) _ (no_default (with_table rows) (codes "seed"))
    (both (default_fault (with_seed rows) (rule_at (codes "rows"))) _ (no_default (with_seed rows) (codes "rows"))
    (both (default_fault (with_rows rows) (rule_at (codes "workers"))) _ (no_default (with_rows rows) (codes "workers"))
    (both (default_fault (with_workers rows) (rule_at (codes "journal"))) _ (no_default (with_workers rows) (codes "journal"))
    (both (default_fault (with_journal rows) (rule_at (codes "sqlite"))) [] (no_default (with_journal rows) (codes "sqlite")) refl))))))))

ends : (rows : List Row) → with_default (with_journal rows) (rule_at (codes "sqlite")) ≡ rows
ends rows =
    same_rows (with_journal rows) (codes "sqlite")
    ∙ same_rows (with_workers rows) (codes "journal")
    ∙ same_rows (with_rows rows) (codes "workers")
    ∙ same_rows (with_seed rows) (codes "rows")
    ∙ same_rows (with_table rows) (codes "seed")
    ∙ same_rows (with_listen rows) (codes "table")
    ∙ same_rows (with_exchanges rows) (codes "listen")
    ∙ same_rows (with_mode rows) (codes "exchanges")
    ∙ mode_same rows

glue : (w below s d c : Kinds) → below ≡ [] → d ≡ [] → c ≡ [] → or_else w (or_else below (or_else s (or_else d c))) ≡ or_else w s
glue w below s d c p q r = rw (p, q, r) (ap (or_else w) (or-nil s))
  where
    or-nil : (k : Kinds) → or_else k [] ≡ k
    or-nil [] = refl
    or-nil (k ∷ ks) = refl

faults : (words : List Text) → fault_of command_line words
    ≡ or_else (walk_fault top [] (at_idle (plain_held []) 1) (drop 1 words)) (settle_fault ready false (end_of (at_idle (plain_held []) 1) (drop 1 words)))
unfolding clap_on_literals
faults words =
    let stop = (walk ready [] nothing_held (drop 1 words)).stopped in
    let end = (walk ready [] nothing_held (drop 1 words)).held in
    glue (walk_fault top [] (at_idle (plain_held []) 1) (drop 1 words)) (entered_fault (built command_line) stop) (settle_fault ready false end) (defaults_fault (settled ready end).rows ready) _
    (no_below stop) (defaults (settled ready end).rows) (rw (not_entered stop) refl)

rows-are : (words : List Text) → matches_of command_line words ≡ (settled ready (end_of (at_idle (plain_held []) 1) (drop 1 words))).rows
unfolding clap_on_literals
rows-are words = ends (settled ready (end_of (at_idle (plain_held []) 1) (drop 1 words))).rows

pub taken : (words : List Text) → Fine (drop 1 words) → finish (fault_of command_line words) (matches_of command_line words) ≡ own [] (scan false None (drop 1 words))
taken words fine = ap₂ finish (faults words) (rows-are words) ∙ walk-plain (drop 1 words) false fine []
