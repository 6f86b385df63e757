-- The walk of `clap` over all the words comes to what the scan gives.
use Rattle.std.proofs.Common.{◌≡◌, ◌++◌, ◌⊎◌, ℕ, List, [], ◌∷◌, Option, Some, None, inl, inr, refl, ap, ap₂, subst, codes, true, false, Bool, ◌∙◌, sym}
use Rattle.std.specs.Prelude.{bytes_eq, cond, ◌&&◌, ◌||◌, ⊤}
use Rattle.std.specs.List.{AllByRecursion, list_any}
use Rattle.std.proofs.lemmas.Slice.Eq.{bytes_eq-Decides}
use Rattle.clap.specs.Lexer.{long_of, short_of}
use Rattle.clap.specs.Walk.{Held, Row, Text, Walk, arg_by_id, arg_by_long, has_row, idle, is_pending, option, pushed, settled, walked}
use Rattle.clap.specs.Simple.{filled, new_rule, with_index}
use Rattle.clap.specs.Faults.{repeat_fault, settle_fault, turn_fault, walk_fault}
use Rattle.clap.specs.Kinds.{Kinds, or_else}
use Rattle.clap.specs.declared.error.kind.ErrorKind.TheVariants as kind
use Rattle.clap.proofs.OnLiterals.{clap_on_literals}
use Rattle.vec_words.proofs.Scanning.{scan, word_as}
use Rattle.vec_words.specs.Uses.{Use, is_option, option_names, with_use}
use Rattle.vec_words.specs.inner.CommandLine.{option_rule}
use Rattle.vec_words.proofs.Building.{ready}
use Rattle.std.proofs.lemmas.List.{append-nil}
use Rattle.clap.specs.Walk.{more_values, reading_by, used, with_values}
use Rattle.clap.specs.declared.parser.matches.ValueSource.TheVariants.{CommandLine}
use Rattle.vec_words.proofs.Turns.{absent, after, at_idle, attached, attached_walk, end_of, end_plain, finish, named, outcome, outcome-cons, own, pending_held, place, plain_held, positional, row, settle-fine, settle-repeat, settle-rows, stray, top, unknown, value_walk}

-- no word is two hyphens or begins with one alone
abbrev pub Fine : List Text → Type 0
Fine [] = ⊤
Fine (w ∷ ws) = (bytes_eq w (45 ∷ 45 ∷ []) ≡ false) × (short_of w ≡ None) × Fine ws

after-or : (t u : Kinds) (o : Option (List Row)) → after (or_else t u) o ≡ after t (after u o)
after-or [] u o = refl
after-or (k ∷ ks) u o = refl

after-none : (t : Kinds) → after t None ≡ None
after-none [] = refl
after-none (k ∷ ks) = refl

-- what is pending is used first
abbrev any_held : List Row → Option (Text × List Text) → Held
any_held rows p = record { rows = rows; pending = p; skip = 0 }

finish-or : (s : Kinds) (rows : List Row) → finish (or_else [] s) rows ≡ after s (Some rows)
finish-or [] rows = refl
finish-or (k ∷ ks) rows = refl

or-cases : (a b : Bool) → (a || b) ≡ true → (a ≡ true) ⊎ (b ≡ true)
or-cases true b e = inl refl
or-cases false b e = inr e

pub or-neither : (a b : Bool) → (a || b) ≡ false → (a ≡ false) × (b ≡ false)
or-neither true b e = cc e
or-neither false b e = (refl, e)

-- what holds of the names in a list holds of each that is among them
one_of : (p : Text → Type 0) (names : List Text) (name : Text) → AllByRecursion p names → list_any (λ x. bytes_eq x name) names ≡ true → p name
one_of p [] name all e = cc e
one_of p (n ∷ ns) name all e =
    elim (or-cases (bytes_eq n name) _ e) [
      | inl same ↦ subst p ((bytes_eq-Decides n name).0 same) all.0
      | inr rest ↦ one_of p ns name all.1 rest
    ]

known : (name : Text) → is_option name ≡ true → arg_by_long ready name ≡ Some (filled (option_rule name))
known name =
    one_of (λ name. arg_by_long ready name ≡ Some (filled (option_rule name))) option_names name (refl, (refl, (refl, (refl, (refl, (refl, (refl, (refl, tt))))))))

known_id : (name : Text) → is_option name ≡ true → arg_by_id ready name ≡ Some (filled (option_rule name))
known_id name =
    one_of (λ name. arg_by_id ready name ≡ Some (filled (option_rule name))) option_names name (refl, (refl, (refl, (refl, (refl, (refl, (refl, (refl, tt))))))))

not_known : (name : Text) → is_option name ≡ false → arg_by_long ready name ≡ None
not_known name e =
    let n0 = or-neither (bytes_eq (codes "exchanges") name) _ e in
    let n1 = or-neither (bytes_eq (codes "listen") name) _ n0.1 in
    let n2 = or-neither (bytes_eq (codes "table") name) _ n1.1 in
    let n3 = or-neither (bytes_eq (codes "seed") name) _ n2.1 in
    let n4 = or-neither (bytes_eq (codes "rows") name) _ n3.1 in
    let n5 = or-neither (bytes_eq (codes "workers") name) _ n4.1 in
    let n6 = or-neither (bytes_eq (codes "journal") name) _ n5.1 in
    let n7 = or-neither (bytes_eq (codes "sqlite") name) _ n6.1 in
    rw (n0.0, n1.0, n2.0, n3.0, n4.0, n5.0, n6.0, n7.0) refl

pub named_walk : (h : Held) (p : ℕ) (word name : Text) → bytes_eq word (45 ∷ 45 ∷ []) ≡ false
    → long_of word ≡ Some (name, None) → arg_by_long ready name ≡ Some (filled (option_rule name))
    → walked ready [] (at_idle h p) word
    ≡ record { held = record (settled ready h) { pending = Some (name, []) }; waiting = option name; position = p; is_trailing = false; stopped = None }
unfolding clap_on_literals
named_walk h p word name dashes long found = rw (dashes, long, found) refl

pub positional_walk : (rows : List Row) (q : Option (Text × List Text)) (word : Text) → bytes_eq word (45 ∷ 45 ∷ []) ≡ false
    → long_of word ≡ None → short_of word ≡ None
    → walked ready [] (at_idle (any_held rows q) 1) word ≡ at_idle (pending_held (settled ready (any_held rows q)).rows (codes "mode") word) 2
unfolding clap_on_literals
positional_walk rows q word dashes long short = rw (dashes, long, short) (go (is_pending (with_index 1 (filled (new_rule (codes "mode")))) q))
  where
    go : (b : Bool) → record {
      held = pushed (codes "mode") word (cond (b && false) (any_held rows q) (settled ready (any_held rows q)));
      waiting = idle;
      position = 2;
      is_trailing = false;
      stopped = None;
    } ≡ at_idle (pending_held (settled ready (any_held rows q)).rows (codes "mode") word) 2
    go true = refl
    go false = refl

-- a word `--name` or `--name=value`
first-long : (rows : List Row) (p : Option (Text × List Text)) (n : ℕ) (w : Text) (rest : List Text) → bytes_eq w (45 ∷ 45 ∷ []) ≡ false
    → (name : Text) (v : Option Text) → long_of w ≡ Some (name, v) → (b : Bool) → is_option name ≡ b
    → outcome (at_idle (any_held rows p) n) (w ∷ rest)
    ≡ after (settle_fault ready false (any_held rows p)) (outcome (at_idle (plain_held (settled ready (any_held rows p)).rows) n) (w ∷ rest))
first-long rows p n w rest dashes name v long false e =
    let h = any_held rows p in
    let g = plain_held (settled ready h).rows in
    outcome-cons (at_idle h n) w rest
    ∙ ap (λ t. after t (outcome (walked ready [] (at_idle h n) w) rest)) (unknown h n w name v dashes long (not_known name e))
    ∙ sym (after-none (settle_fault ready false h))
    ∙ ap (after (settle_fault ready false h)) (sym (outcome-cons (at_idle g n) w rest
    ∙ ap (λ t. after t (outcome (walked ready [] (at_idle g n) w) rest)) (unknown g n w name v dashes long (not_known name e))))
first-long rows p n w rest dashes name None long true e =
    let h = any_held rows p in
    let g = plain_held (settled ready h).rows in
    outcome-cons (at_idle h n) w rest
    ∙ ap₂ after (named h n w name dashes long (known name e)) (ap (λ k. outcome k rest) (named_walk h n w name dashes long (known name e) ∙ sym (named_walk g n w name dashes long (known name e))))
    ∙ ap (after (settle_fault ready false h)) (sym (outcome-cons (at_idle g n) w rest
    ∙ ap (λ t. after t (outcome (walked ready [] (at_idle g n) w) rest)) (named g n w name dashes long (known name e))))
first-long rows p n w rest dashes name (Some v) long true e =
    let h = any_held rows p in
    let g = plain_held (settled ready h).rows in
    outcome-cons (at_idle h n) w rest
    ∙ ap₂ after (attached h n w name v dashes long (known name e)) (ap (λ k. outcome k rest) (attached_walk h n w name v dashes long (known name e) ∙ sym (attached_walk g n w name v dashes long (known name e))))
    ∙ after-or (settle_fault ready false h) (repeat_fault false name (settled ready h).rows) (outcome (walked ready [] (at_idle g n) w) rest)
    ∙ ap (after (settle_fault ready false h)) (sym (outcome-cons (at_idle g n) w rest
    ∙ ap (λ t. after t (outcome (walked ready [] (at_idle g n) w) rest)) (attached g n w name v dashes long (known name e))))

first-cons : (rows : List Row) (p : Option (Text × List Text)) (seen : Bool) (w : Text) (rest : List Text) → bytes_eq w (45 ∷ 45 ∷ []) ≡ false
    → short_of w ≡ None → (o : Option (Text × Option Text)) → long_of w ≡ o
    → outcome (at_idle (any_held rows p) (place seen)) (w ∷ rest)
    ≡ after (settle_fault ready false (any_held rows p)) (outcome (at_idle (plain_held (settled ready (any_held rows p)).rows) (place seen)) (w ∷ rest))
first-cons rows p seen w rest dashes short (Some (name, v)) long = first-long rows p (place seen) w rest dashes name v long (is_option name) refl
first-cons rows p true w rest dashes short None long =
    let h = any_held rows p in
    outcome-cons (at_idle h 2) w rest ∙ ap (λ t. after t (outcome (walked ready [] (at_idle h 2) w) rest)) (stray h w dashes long short)
    ∙ sym (after-none (settle_fault ready false h))
    ∙ ap (after (settle_fault ready false h)) (sym (outcome-cons (at_idle (plain_held (settled ready h).rows) 2) w rest
    ∙ ap (λ t. after t (outcome (walked ready [] (at_idle (plain_held (settled ready h).rows) 2) w) rest)) (stray (plain_held (settled ready h).rows) w dashes long short)))
first-cons rows p false w rest dashes short None long =
    let h = any_held rows p in
    let g = plain_held (settled ready h).rows in
    outcome-cons (at_idle h 1) w rest
    ∙ ap₂ after (positional h w dashes long short) (ap (λ k. outcome k rest) (positional_walk rows p w dashes long short ∙ sym (positional_walk (settled ready h).rows None w dashes long short)))
    ∙ ap (after (settle_fault ready false h)) (sym (outcome-cons (at_idle g 1) w rest
    ∙ ap (λ t. after t (outcome (walked ready [] (at_idle g 1) w) rest)) (positional g w dashes long short)))

pub settle-first : (rows : List Row) (p : Option (Text × List Text)) (seen : Bool) (words : List Text) → Fine words
    → outcome (at_idle (any_held rows p) (place seen)) words
    ≡ after (settle_fault ready false (any_held rows p)) (outcome (at_idle (plain_held (settled ready (any_held rows p)).rows) (place seen)) words)
unfolding walk_fault
settle-first rows p seen [] fine = finish-or (settle_fault ready false (any_held rows p)) (settled ready (any_held rows p)).rows
settle-first rows p seen (w ∷ rest) fine = first-cons rows p seen w rest fine.0 fine.1 (long_of w) refl

pub own-use : (rows : List Row) (x v : Text) (o : Option (List Use)) → has_row x rows ≡ false → own rows (with_use (x, v) o) ≡ own (rows ++ row x v ∷ []) o
own-use rows x v None e = refl
own-use rows x v (Some us) e = rw e refl

pub own-repeat : (rows : List Row) (x v : Text) (o : Option (List Use)) → has_row x rows ≡ true → own rows (with_use (x, v) o) ≡ None
own-repeat rows x v None e = refl
own-repeat rows x v (Some us) e = rw e refl

-- ---- the whole walk

-- a waiting option
abbrev at_waiting : List Row → Text → ℕ → Walk
at_waiting rows x p = record { held = record { rows = rows; pending = Some (x, []); skip = 0 }; waiting = option x; position = p; is_trailing = false; stopped = None }

settle-empty : (rows : List Row) (x : Text) → is_option x ≡ true
    → settle_fault ready false (record { rows = rows; pending = Some (x, []); skip = 0 }) ≡ kind.InvalidValue ∷ []
unfolding clap_on_literals
settle-empty rows x e = rw (known_id x e) refl

waits-turn : (rows : List Row) (x : Text) (p : ℕ) (word name : Text) (v : Option Text) → bytes_eq word (45 ∷ 45 ∷ []) ≡ false
    → long_of word ≡ Some (name, v) → is_option x ≡ true → (b : Bool) → is_option name ≡ b
    → (k : _) × (ks : Kinds) × (turn_fault top [] (at_waiting rows x p) word ≡ k ∷ ks)
unfolding clap_on_literals
waits-turn rows x p word name v dashes long e false f = (kind.UnknownArgument, [], rw (dashes, long, not_known name f) refl)
waits-turn rows x p word name None dashes long e true f = (kind.InvalidValue, [], rw (dashes, long, known name f, known_id x e) refl)
waits-turn rows x p word name (Some v) dashes long e true f = (kind.InvalidValue, [], rw (dashes, long, known name f, known_id x e) refl)

pub waits_value : (rows : List Row) (x : Text) (p : ℕ) (word : Text) → bytes_eq word (45 ∷ 45 ∷ []) ≡ false
    → long_of word ≡ None → short_of word ≡ None → turn_fault top [] (at_waiting rows x p) word ≡ []
unfolding clap_on_literals
waits_value rows x p word dashes long short = rw (dashes, long, short) refl

-- a use that is pending, where the rest of the walk is the scan
use-first : (rows : List Row) (seen : Bool) (x v : Text) (words : List Text) → Fine words → is_option x ≡ true
    → ((rows : List Row) → outcome (at_idle (plain_held rows) (place seen)) words ≡ own rows (scan seen None words))
    → (b : Bool) → has_row x rows ≡ b
    → outcome (at_idle (pending_held rows x v) (place seen)) words ≡ own rows (with_use (x, v) (scan seen None words))
use-first rows seen x v words fine e ih true has =
    settle-first rows (Some (x, v ∷ [])) seen words fine
    ∙ ap (λ s. after s (outcome (at_idle (plain_held (settled ready (pending_held rows x v)).rows) (place seen)) words)) (settle-repeat rows x v (known_id x e) has)
    ∙ sym (own-repeat rows x v (scan seen None words) has)
use-first rows seen x v words fine e ih false has =
    settle-first rows (Some (x, v ∷ [])) seen words fine
    ∙ ap₂ after (settle-fine rows x v (known_id x e) has) (ap (λ r. outcome (at_idle (plain_held r) (place seen)) words) (settle-rows rows x v (known_id x e) has))
    ∙ ih (rows ++ row x v ∷ []) ∙ sym (own-use rows x v (scan seen None words) has)

mode-repeat : (rows : List Row) (v : Text) → has_row (codes "mode") rows ≡ true → settle_fault ready false (pending_held rows (codes "mode") v) ≡ kind.ArgumentConflict ∷ []
unfolding clap_on_literals
mode-repeat rows v has = rw has refl

mode-fine : (rows : List Row) (v : Text) → has_row (codes "mode") rows ≡ false → settle_fault ready false (pending_held rows (codes "mode") v) ≡ []
unfolding clap_on_literals
mode-fine rows v has = rw has refl

mode-rows : (rows : List Row) (v : Text) → has_row (codes "mode") rows ≡ false
    → (settled ready (pending_held rows (codes "mode") v)).rows ≡ rows ++ row (codes "mode") v ∷ []
unfolding clap_on_literals
mode-rows rows v has =
    ap (λ l. with_values (codes "mode") (reading_by (filled (option_rule (codes "mode")))) CommandLine (v ∷ []) l) (absent (codes "mode") (λ _. []) [] rows has ∙ append-nil rows)
    ∙ absent (codes "mode") (more_values CommandLine (v ∷ [])) _ rows has

mode-first : (rows : List Row) (v : Text) (words : List Text) → Fine words
    → ((rows : List Row) → outcome (at_idle (plain_held rows) 2) words ≡ own rows (scan true None words))
    → (b : Bool) → has_row (codes "mode") rows ≡ b
    → outcome (at_idle (pending_held rows (codes "mode") v) 2) words ≡ own rows (with_use (codes "mode", v) (scan true None words))
mode-first rows v words fine ih true has =
    settle-first rows (Some (codes "mode", v ∷ [])) true words fine
    ∙ ap (λ s. after s (outcome (at_idle (plain_held (settled ready (pending_held rows (codes "mode") v)).rows) 2) words)) (mode-repeat rows v has)
    ∙ sym (own-repeat rows (codes "mode") v (scan true None words) has)
mode-first rows v words fine ih false has =
    settle-first rows (Some (codes "mode", v ∷ [])) true words fine
    ∙ ap₂ after (mode-fine rows v has) (ap (λ r. outcome (at_idle (plain_held r) 2) words) (mode-rows rows v has))
    ∙ ih (rows ++ row (codes "mode") v ∷ []) ∙ sym (own-use rows (codes "mode") v (scan true None words) has)

-- a word of a plain state
repeated : (rows : List Row) (x : Text) → has_row x rows ≡ true → repeat_fault false x rows ≡ kind.ArgumentConflict ∷ []
repeated rows x has = rw has refl

not_repeated : (rows : List Row) (x : Text) → has_row x rows ≡ false → repeat_fault false x rows ≡ []
not_repeated rows x has = rw has refl

used-rows : (rows : List Row) (x v : Text) → has_row x rows ≡ false → used (filled (option_rule x)) (v ∷ []) rows ≡ rows ++ row x v ∷ []
unfolding clap_on_literals
used-rows rows x v has =
    ap (λ l. with_values x (reading_by (filled (option_rule x))) CommandLine (v ∷ []) l) (absent x (λ _. []) [] rows has ∙ append-nil rows)
    ∙ absent x (more_values CommandLine (v ∷ [])) _ rows has

attached-word : (rows : List Row) (seen : Bool) (w : Text) (rest : List Text) → bytes_eq w (45 ∷ 45 ∷ []) ≡ false → (name v : Text)
    → long_of w ≡ Some (name, Some v) → is_option name ≡ true
    → ((rows : List Row) → outcome (at_idle (plain_held rows) (place seen)) rest ≡ own rows (scan seen None rest))
    → (b : Bool) → has_row name rows ≡ b
    → outcome (at_idle (plain_held rows) (place seen)) (w ∷ rest) ≡ own rows (with_use (name, v) (scan seen None rest))
attached-word rows seen w rest dashes name v long e ih true has =
    outcome-cons (at_idle (plain_held rows) (place seen)) w rest
    ∙ ap (λ t. after t (outcome (walked ready [] (at_idle (plain_held rows) (place seen)) w) rest))
    (attached (plain_held rows) (place seen) w name v dashes long (known name e) ∙ repeated rows name has)
    ∙ sym (own-repeat rows name v (scan seen None rest) has)
attached-word rows seen w rest dashes name v long e ih false has =
    outcome-cons (at_idle (plain_held rows) (place seen)) w rest
    ∙ ap₂ after (attached (plain_held rows) (place seen) w name v dashes long (known name e) ∙ not_repeated rows name has)
    (ap (λ k. outcome k rest) (attached_walk (plain_held rows) (place seen) w name v dashes long (known name e) ∙ ap (λ r. at_idle (plain_held r) (place seen)) (used-rows rows name v has)))
    ∙ ih (rows ++ row name v ∷ []) ∙ sym (own-use rows name v (scan seen None rest) has)

abbrev next : List Text → Bool → Option Text → Option (List Use)
next rest seen wait = scan seen wait rest

long-word : (rows : List Row) (seen : Bool) (w : Text) (rest : List Text) → bytes_eq w (45 ∷ 45 ∷ []) ≡ false → (name : Text) (v : Option Text)
    → long_of w ≡ Some (name, v) → (b : Bool) → is_option name ≡ b
    → ((rows : List Row) → outcome (at_idle (plain_held rows) (place seen)) rest ≡ own rows (scan seen None rest))
    → ((x : Text) → is_option x ≡ true → (rows : List Row) → outcome (at_waiting rows x (place seen)) rest ≡ own rows (scan seen (Some x) rest))
    → outcome (at_idle (plain_held rows) (place seen)) (w ∷ rest) ≡ own rows (word_as seen None w (Some (name, v)) None (next rest))
long-word rows seen w rest dashes name None long false e plain waits =
    outcome-cons (at_idle (plain_held rows) (place seen)) w rest
    ∙ ap (λ t. after t (outcome (walked ready [] (at_idle (plain_held rows) (place seen)) w) rest)) (unknown (plain_held rows) (place seen) w name None dashes long (not_known name e))
    ∙ sym (rw e refl)
long-word rows seen w rest dashes name (Some v) long false e plain waits =
    outcome-cons (at_idle (plain_held rows) (place seen)) w rest
    ∙ ap (λ t. after t (outcome (walked ready [] (at_idle (plain_held rows) (place seen)) w) rest)) (unknown (plain_held rows) (place seen) w name (Some v) dashes long (not_known name e))
    ∙ sym (rw e refl)
long-word rows seen w rest dashes name None long true e plain waits =
    outcome-cons (at_idle (plain_held rows) (place seen)) w rest
    ∙ ap₂ after (named (plain_held rows) (place seen) w name dashes long (known name e)) (ap (λ k. outcome k rest) (named_walk (plain_held rows) (place seen) w name dashes long (known name e)))
    ∙ waits name e rows ∙ sym (rw e refl)
long-word rows seen w rest dashes name (Some v) long true e plain waits =
    attached-word rows seen w rest dashes name v long e plain (has_row name rows) refl ∙ sym (rw e refl)

plain-word : (rows : List Row) (seen : Bool) (w : Text) (rest : List Text) → Fine (w ∷ rest) → (o : Option (Text × Option Text)) → long_of w ≡ o
    → ((seen : Bool) (rows : List Row) → outcome (at_idle (plain_held rows) (place seen)) rest ≡ own rows (scan seen None rest))
    → ((x : Text) → is_option x ≡ true → (rows : List Row) → outcome (at_waiting rows x (place seen)) rest ≡ own rows (scan seen (Some x) rest))
    → outcome (at_idle (plain_held rows) (place seen)) (w ∷ rest) ≡ own rows (word_as seen None w o None (next rest))
plain-word rows seen w rest fine (Some (name, v)) long plain waits = long-word rows seen w rest fine.0 name v long (is_option name) refl (plain seen) waits
plain-word rows true w rest fine None long plain waits =
    outcome-cons (at_idle (plain_held rows) 2) w rest
    ∙ ap (λ t. after t (outcome (walked ready [] (at_idle (plain_held rows) 2) w) rest)) (stray (plain_held rows) w fine.0 long fine.1)
plain-word rows false w rest fine None long plain waits =
    outcome-cons (at_idle (plain_held rows) 1) w rest
    ∙ ap₂ after (positional (plain_held rows) w fine.0 long fine.1) (ap (λ k. outcome k rest) (positional_walk rows None w fine.0 long fine.1))
    ∙ mode-first rows w rest fine.2 (plain true) (has_row (codes "mode") rows) refl

waits-word : (rows : List Row) (seen : Bool) (x w : Text) (rest : List Text) → is_option x ≡ true → Fine (w ∷ rest) → (o : Option (Text × Option Text)) → long_of w ≡ o
    → ((rows : List Row) → outcome (at_idle (plain_held rows) (place seen)) rest ≡ own rows (scan seen None rest))
    → outcome (at_waiting rows x (place seen)) (w ∷ rest) ≡ own rows (word_as seen (Some x) w o None (next rest))
waits-word rows seen x w rest e fine (Some (name, v)) long plain =
    let t = waits-turn rows x (place seen) w name v fine.0 long e (is_option name) refl in
    outcome-cons (at_waiting rows x (place seen)) w rest ∙ ap (λ k. after k (outcome (walked ready [] (at_waiting rows x (place seen)) w) rest)) t.2
waits-word rows seen x w rest e fine None long plain =
    outcome-cons (at_waiting rows x (place seen)) w rest
    ∙ ap₂ after (waits_value rows x (place seen) w fine.0 long fine.1) (ap (λ k. outcome k rest) (value_walk rows x (place seen) w fine.0 long fine.1 (known_id x e) ((bytes_eq-Decides x x).1 refl)))
    ∙ use-first rows seen x w rest fine.2 e plain (has_row x rows) refl

waits-end : (rows : List Row) (seen : Bool) (x : Text) → is_option x ≡ true → outcome (at_waiting rows x (place seen)) [] ≡ None
unfolding walk_fault
waits-end rows seen x e = ap (λ s. finish s (settled ready (end_of (at_waiting rows x (place seen)) [])).rows) (settle-empty rows x e)

scan-plain : (seen : Bool) (w : Text) (rest : List Text) → short_of w ≡ None → word_as seen None w (long_of w) None (next rest) ≡ scan seen None (w ∷ rest)
unfolding scan
scan-plain seen w rest short = ap (λ s. word_as seen None w (long_of w) s (next rest)) (sym short)

scan-waits : (seen : Bool) (x w : Text) (rest : List Text) → short_of w ≡ None → word_as seen (Some x) w (long_of w) None (next rest) ≡ scan seen (Some x) (w ∷ rest)
unfolding scan
scan-waits seen x w rest short = ap (λ s. word_as seen (Some x) w (long_of w) s (next rest)) (sym short)

scan-end : (seen : Bool) (x : Text) → None ≡ scan seen (Some x) []
unfolding scan
scan-end seen x = refl

mutual
  -- from a plain state the walk is the scan
  pub walk-plain : (words : List Text) (seen : Bool) → Fine words → (rows : List Row) → outcome (at_idle (plain_held rows) (place seen)) words ≡ own rows (scan seen None words)
  walk-plain [] seen fine rows = end_plain rows seen
  walk-plain (w ∷ rest) seen fine rows =
      plain-word rows seen w rest fine (long_of w) refl (λ s r. walk-plain rest s fine.2 r) (λ x e r. walk-waits rest seen x e fine.2 r)
      ∙ ap (own rows) (scan-plain seen w rest fine.1)

  walk-waits : (words : List Text) (seen : Bool) (x : Text) → is_option x ≡ true → Fine words → (rows : List Row) → outcome (at_waiting rows x (place seen)) words ≡ own rows (scan seen (Some x) words)
  walk-waits [] seen x e fine rows = waits-end rows seen x e ∙ ap (own rows) (scan-end seen x)
  walk-waits (w ∷ rest) seen x e fine rows =
      waits-word rows seen x w rest e fine (long_of w) refl (λ r. walk-plain rest seen fine.2 r)
      ∙ ap (own rows) (scan-waits seen x w rest fine.1)
