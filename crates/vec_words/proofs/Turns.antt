-- One word of the walk over the words, and what a whole walk comes to.
use Rattle.std.proofs.Common.{◌≡◌, ◌++◌, ℕ, List, [], ◌∷◌, Option, Some, None, refl, ap, codes, true, false, Bool, ◌∙◌}
use Rattle.std.specs.Prelude.{bytes_eq, cond, ◌&&◌, ◌||◌, fold, option_and_then, if◌then◌else◌}
use Rattle.clap.specs.declared.parser.matches.ValueSource.TheVariants.{CommandLine}
use Rattle.vec_words.proofs.Scanning.{scan}
use Rattle.vec_words.specs.Uses.{Use}
use Rattle.std.proofs.lemmas.List.{append-nil}
use Rattle.clap.specs.Lexer.{long_of, short_of}
use Rattle.clap.specs.Walk.{Held, Row, Text, Walk, at_row, more_values, with_values, arg_by_id, arg_by_long, idle, option, has_row, is_pending, reading_by, reacted, settled, walked}
use Rattle.clap.specs.Simple.{built, filled, new_rule, with_index, Shape}
use Rattle.clap.specs.Faults.{repeat_fault, settle_fault, turn_fault, walk_fault}
use Rattle.clap.specs.Kinds.{Kinds, or_else}
use Rattle.clap.specs.declared.error.kind.ErrorKind.TheVariants as kind
use Rattle.clap.proofs.OnLiterals.{clap_on_literals}
use Rattle.vec_words.specs.inner.CommandLine.{option_rule, command_line}
use Rattle.vec_words.proofs.Building.{ready}

or-nil : (k : Kinds) → or_else k [] ≡ k
or-nil [] = refl
or-nil (k ∷ ks) = refl

abbrev pub top : Shape
top = (built command_line).top

abbrev pub at_idle : Held → ℕ → Walk
at_idle h p = record { held = h; waiting = idle; position = p; is_trailing = false; stopped = None }

pub attached : (h : Held) (p : ℕ) (word name v : Text) → bytes_eq word (45 ∷ 45 ∷ []) ≡ false
    → long_of word ≡ Some (name, Some v) → arg_by_long ready name ≡ Some (filled (option_rule name))
    → turn_fault top [] (at_idle h p) word ≡ or_else (settle_fault ready false h) (repeat_fault false name (settled ready h).rows)
unfolding clap_on_literals
attached h p word name v dashes long found =
    rw (dashes, long, found) (or-nil _ ∙ ap (or_else (settle_fault ready false h)) (or-nil _))

pub attached_walk : (h : Held) (p : ℕ) (word name v : Text) → bytes_eq word (45 ∷ 45 ∷ []) ≡ false
    → long_of word ≡ Some (name, Some v) → arg_by_long ready name ≡ Some (filled (option_rule name))
    → walked ready [] (at_idle h p) word ≡ at_idle (reacted ready (filled (option_rule name)) (v ∷ []) h) p
unfolding clap_on_literals
attached_walk h p word name v dashes long found = rw (dashes, long, found) refl

-- an option that is not known
pub unknown : (h : Held) (p : ℕ) (word name : Text) (v : Option Text) → bytes_eq word (45 ∷ 45 ∷ []) ≡ false
    → long_of word ≡ Some (name, v) → arg_by_long ready name ≡ None
    → turn_fault top [] (at_idle h p) word ≡ kind.UnknownArgument ∷ []
unfolding clap_on_literals
unknown h p word name v dashes long found = rw (dashes, long, found) refl

-- an option whose value is the next word
pub named : (h : Held) (p : ℕ) (word name : Text) → bytes_eq word (45 ∷ 45 ∷ []) ≡ false
    → long_of word ≡ Some (name, None) → arg_by_long ready name ≡ Some (filled (option_rule name))
    → turn_fault top [] (at_idle h p) word ≡ settle_fault ready false h
unfolding clap_on_literals
named h p word name dashes long found = rw (dashes, long, found) (or-nil _)

-- a word that is no flag, at the first position
pub positional : (h : Held) (word : Text) → bytes_eq word (45 ∷ 45 ∷ []) ≡ false
    → long_of word ≡ None → short_of word ≡ None
    → turn_fault top [] (at_idle h 1) word ≡ settle_fault ready false h
unfolding clap_on_literals
positional h word dashes long short = rw (dashes, long, short) (go (is_pending (with_index 1 (filled (new_rule (codes "mode")))) h.pending))
  where
    go : (b : Bool) → cond (b && false) [] (settle_fault ready false h) ≡ settle_fault ready false h
    go true = refl
    go false = refl

-- and at the second
pub stray : (h : Held) (word : Text) → bytes_eq word (45 ∷ 45 ∷ []) ≡ false
    → long_of word ≡ None → short_of word ≡ None
    → turn_fault top [] (at_idle h 2) word ≡ kind.UnknownArgument ∷ []
unfolding clap_on_literals
stray h word dashes long short = rw (dashes, long, short) refl

-- the value of an option, as a word of its own
pub value_walk : (rows : List Row) (x : Text) (p : ℕ) (word : Text) → bytes_eq word (45 ∷ 45 ∷ []) ≡ false
    → long_of word ≡ None → short_of word ≡ None → arg_by_id ready x ≡ Some (filled (option_rule x)) → bytes_eq x x ≡ true
    → walked ready [] (record { held = record { rows = rows; pending = Some (x, []); skip = 0 }; waiting = option x; position = p; is_trailing = false; stopped = None }) word
    ≡ at_idle (record { rows = rows; pending = Some (x, word ∷ []); skip = 0 }) p
unfolding clap_on_literals
value_walk rows x p word dashes long short known same = rw (dashes, long, short, known, same) refl

-- ---- the outcome of a walk

abbrev pub finish : Kinds → List Row → Option (List Row)
finish [] rows = Some rows
finish (k ∷ ks) rows = None

abbrev pub after : Kinds → Option (List Row) → Option (List Row)
after [] o = o
after (k ∷ ks) o = None

abbrev pub end_of : Walk → List Text → Held
end_of w words = (fold (walked ready []) w words).held

abbrev pub outcome : Walk → List Text → Option (List Row)
outcome w words = finish (or_else (walk_fault top [] w words) (settle_fault ready false (end_of w words))) (settled ready (end_of w words)).rows

pub outcome-cons : (w : Walk) (word : Text) (rest : List Text) → outcome w (word ∷ rest) ≡ after (turn_fault top [] w word) (outcome (walked ready [] w word) rest)
unfolding walk_fault
outcome-cons w word rest = go (turn_fault top [] w word) (walk_fault top [] (walked ready [] w word) rest) (settle_fault ready false (end_of (walked ready [] w word) rest))
  where
    go : (t u s : Kinds) → finish (or_else (or_else t u) s) (settled ready (end_of (walked ready [] w word) rest)).rows ≡ after t (finish (or_else u s) (settled ready (end_of (walked ready [] w word) rest)).rows)
    go [] u s = refl
    go (k ∷ ks) u s = refl

abbrev pub row : Text → Text → Row
row x v = record { id = x; values = v ∷ []; count = None; source = Some CommandLine; reading = reading_by (filled (option_rule x)) }

-- the uses, one after another, each of a name of its own
abbrev pub add : List Row → List Use → Option (List Row)
add rows [] = Some rows
add rows (u ∷ us) = if has_row u.0 rows then None else add (rows ++ row u.0 u.1 ∷ []) us

abbrev pub own : List Row → Option (List Use) → Option (List Row)
own rows o = option_and_then (add rows) o

abbrev pub place : Bool → ℕ
place true = 2
place false = 1

abbrev pub plain_held : List Row → Held
plain_held rows = record { rows = rows; pending = None; skip = 0 }

pub end_plain : (rows : List Row) (seen : Bool) → outcome (at_idle (plain_held rows) (place seen)) [] ≡ own rows (scan seen None [])
unfolding walk_fault scan
end_plain rows seen = refl

abbrev pub pending_held : List Row → Text → Text → Held
pending_held rows x v = record { rows = rows; pending = Some (x, v ∷ []); skip = 0 }

-- a row is added behind rows that have none of its name
pub absent : (x : Text) (f : Row → List Row) (missing rows : List Row) → has_row x rows ≡ false → at_row x f missing rows ≡ rows ++ missing
absent x f missing [] h = refl
absent x f missing (r ∷ rs) h = go (bytes_eq r.id x) (λ g. absent x f missing rs g) h
  where
    go : (b : Bool) → (has_row x rs ≡ false → at_row x f missing rs ≡ rs ++ missing) → (b || has_row x rs) ≡ false
        → cond b (f r ++ rs) (r ∷ at_row x f missing rs) ≡ r ∷ (rs ++ missing)
    go true ih h = cc h
    go false ih h = ap (λ l. r ∷ l) (ih h)

-- what is pending is used: a repeat is refused
pub settle-repeat : (rows : List Row) (x v : Text) → arg_by_id ready x ≡ Some (filled (option_rule x)) → has_row x rows ≡ true
    → settle_fault ready false (pending_held rows x v) ≡ kind.ArgumentConflict ∷ []
unfolding clap_on_literals
settle-repeat rows x v known has = rw (known, has) refl

pub settle-fine : (rows : List Row) (x v : Text) → arg_by_id ready x ≡ Some (filled (option_rule x)) → has_row x rows ≡ false
    → settle_fault ready false (pending_held rows x v) ≡ []
unfolding clap_on_literals
settle-fine rows x v known has = rw (known, has) refl

pub settle-rows : (rows : List Row) (x v : Text) → arg_by_id ready x ≡ Some (filled (option_rule x)) → has_row x rows ≡ false
    → (settled ready (pending_held rows x v)).rows ≡ rows ++ row x v ∷ []
unfolding clap_on_literals
settle-rows rows x v known has =
    rw known (ap (λ l. with_values x (reading_by (filled (option_rule x))) CommandLine (v ∷ []) l) (absent x (λ _. []) [] rows has ∙ append-nil rows)
    ∙ absent x (more_values CommandLine (v ∷ [])) _ rows has)
