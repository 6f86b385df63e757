-- What `clap` answers of the words against the configuration that they spell.
use Rattle.std.proofs.Common.{◌≡◌, ◌≢◌, ◌⊎◌, inl, inr, List, [], ◌∷◌, ℕ, ◌<◌, Option, Some, None, Result, Ok, Err, refl, ap, true, false, Bool, ◌∙◌, sym, map, drop, take, length, suc, ◌-◌, arith}
use Rattle.std.specs.Borrow.{Bor}
use Rattle.std.proofs.lemmas.List.{take_all}
use Rattle.std.specs.Result.{IsErrAnd}
use Rattle.vec_words.specs.declared.fault.WordsFault.{WordsFault}
use Rattle.vec_words.specs.declared.fault.WordsFault.TheVariants.{Memory, Words}
use Rattle.std.specs.Prelude.{cond, ok_or, option_and_then, unwrap_or}
use Rattle.clap.specs.Walk.{Row, first_of, rows_of}
use Rattle.clap.specs.Matches.{first_value}
use Rattle.clap.specs.declared.parser.matches.Found.{Found}
use Rattle.clap.specs.Simple.{matches_of}
use Rattle.clap.specs.Faults.{fault_of}
use Rattle.clap.specs.Kinds.{Kinds}
use Rattle.clap.proofs.WalkLemmas.{first_value-rows}
use Rattle.vec_base.specs.Answers.{Gives}
use Rattle.vec_words.proofs.Taken.{taken}
use Rattle.vec_words.proofs.Turns.{finish, own}
use Rattle.vec_words.proofs.UseLaws.{fine, row_of_use, rows_are, scan_spells, short_never, value_found}
use Rattle.vec_words.specs.declared.config.Config.{Config}
use Rattle.vec_words.specs.declared.config.Mode.{Mode}
use Rattle.vec_words.specs.declared.config.Store.{Store}
use Rattle.vec_words.specs.declared.config.TheConstants.{DEFAULT_LISTEN, MOST_WORKERS}
use Rattle.vec_words.specs.Configs.{Values, config_at, config_by, config_from, config_of, mode_of, number_or, store_of, values_by, values_of}
use Rattle.vec_words.specs.Uses.{Text, Use, are_once, uses_of, value_of}
use Rattle.vec_words.specs.inner.CommandLine.{command_line, has_short_word}
use Rattle.vec_words.specs.inner.Given.{lent, values_found}

-- what `clap` makes of words of which none is short
clap_spells : (words : List Text) → has_short_word (drop 1 words) ≡ false
    → finish (fault_of command_line words) (matches_of command_line words) ≡ own [] (uses_of None (drop 1 words))
clap_spells words h = taken words (fine (drop 1 words) h) ∙ scan_spells (drop 1 words) h false None [] (λ e. cc e)

-- a short word among the words
pub short_config : (words : List Text) → has_short_word (drop 1 words) ≡ true → config_of words ≡ None
short_config words h = ap (option_and_then config_by) (short_never (drop 1 words) None h)

-- no rows are made of uses that spell a configuration twice or not at all
refused_by : (uses : Option (List Use)) → None ≡ own [] uses → option_and_then config_by uses ≡ None
refused_by None h = refl
refused_by (Some uses) h = go (are_once uses) (h ∙ rows_are uses)
  where
    go : (b : Bool) → None ≡ cond b (Some (map row_of_use uses)) None → cond b (config_at (values_of uses)) None ≡ None
    go true e = cc e
    go false e = refl

not_finished : (kinds : Kinds) (rows : List Row) → kinds ≢ [] → finish kinds rows ≡ None
not_finished [] rows h = absurd (h refl)
not_finished (k ∷ kinds) rows h = refl

-- words that `clap` refuses
pub refused_config : (words : List Text) → has_short_word (drop 1 words) ≡ false → fault_of command_line words ≢ [] → config_of words ≡ None
refused_config words h never =
    refused_by (uses_of None (drop 1 words)) (sym (not_finished (fault_of command_line words) (matches_of command_line words) never) ∙ clap_spells words h)

same_values : (f g : Text → Option Text) → ((name : Text) → f name ≡ g name) → values_by f ≡ values_by g
same_values f g h = rw (h _, h _, h _, h _, h _, h _, h _, h _, h _) refl

-- the rows of uses are the rows that were found
found_by : (rows : List Row) (uses : Option (List Use)) → Some rows ≡ own [] uses
    → option_and_then config_by uses ≡ config_at (values_by (λ name. first_of name rows))
found_by rows None e = cc e
found_by rows (Some uses) e = go (are_once uses) (e ∙ rows_are uses)
  where
    go : (b : Bool) → Some rows ≡ cond b (Some (map row_of_use uses)) None → cond b (config_at (values_of uses)) None ≡ config_at (values_by (λ name. first_of name rows))
    go true e = ap config_at (same_values (λ name. value_of name uses) (λ name. first_of name rows) (λ name. sym (value_found name uses) ∙ ap (first_of name) (sym (same e))))
      where
        same : Some rows ≡ Some (map row_of_use uses) → rows ≡ map row_of_use uses
        same e = cc e
    go false e = cc e

finished : (kinds : Kinds) (rows : List Row) → kinds ≡ [] → Some rows ≡ finish kinds rows
finished kinds rows e = rw e refl

-- words that `clap` takes
pub taken_config : (words : List Text) (found : Found) → has_short_word (drop 1 words) ≡ false → fault_of command_line words ≡ [] → rows_of found ≡ matches_of command_line words
    → config_of words ≡ config_at (values_found found)
taken_config words found h taken rows =
    found_by (rows_of found) (uses_of None (drop 1 words)) (ap (λ l. Some l) rows ∙ finished (fault_of command_line words) (matches_of command_line words) taken ∙ clap_spells words h)
    ∙ ap config_at (same_values (λ name. first_of name (rows_of found)) (first_value found) (λ name. sym (first_value-rows found name)))

-- ---- what is answered step by step

-- a value that is answered is the one that is given
pub told : {A : Type 0} (o : Option A) (x : A) → Gives Memory (Ok x) (ok_or o Words) → o ≡ Some x
told None x (inl e) = cc e
told None x (inr e) = cc e
told (Some a) x (inl e) = cc e
told (Some a) x (inr e) = cc e

-- there is none, or memory was wanted
abbrev IsMissing : {A : Type 0} → Option A → WordsFault → Type 0
IsMissing o fault = ((o ≡ None) × (fault ≡ Words)) ⊎ (fault ≡ Memory)

pub missing : {A : Type 0} (o : Option A) (fault : WordsFault) → Gives Memory (let r : Result A WordsFault = Err fault in r) (ok_or o Words) → IsMissing o fault
missing None fault (inl e) = inl (refl, cc e)
missing None fault (inr e) = inr (cc e)
missing (Some a) fault (inl e) = cc e
missing (Some a) fault (inr e) = inr (cc e)

-- where a part is missing, so is the whole
pub stops : {A B : Type 0} (part : Option A) (whole : Option B) (fault : WordsFault) (result : Result B WordsFault) → IsErrAnd result (λ e. e ≡ fault)
    → IsMissing part fault → (part ≡ None → whole ≡ None) → Gives Memory result (ok_or whole Words)
stops part whole fault (Err e) is (inl p) h = inl (ap (λ (x : WordsFault). (let r : Result _ WordsFault = Err x in r)) (is ∙ p.1) ∙ sym (ap (λ o. ok_or o Words) (h p.0)))
stops part whole fault (Err e) is (inr m) h = inr (ap (λ (x : WordsFault). (let r : Result _ WordsFault = Err x in r)) (is ∙ m))
stops part whole fault (Ok x) is missed h = absurd is

-- the answer of `ok_or` tells what it was asked of
pub was_some : {A : Type 0} (o : Option A) (x : A) → (let r : Result A WordsFault = Ok x in r) ≡ ok_or o Words → o ≡ Some x
was_some None x e = cc e
was_some (Some a) x e = cc e

pub was_none : {A : Type 0} (o : Option A) (fault : WordsFault) → (let r : Result A WordsFault = Err fault in r) ≡ ok_or o Words → IsMissing o fault
was_none None fault e = inl (refl, cc e)
was_none (Some a) fault e = cc e

-- a configuration of parts that are known
pub whole : (v : Values) (mode : Mode) (store : Store) (workers : ℕ) (listen : Text) → mode_of v ≡ Some mode → store_of v.journal v.sqlite ≡ Some store
    → number_or 1 1 MOST_WORKERS v.workers ≡ Some workers → listen ≡ unwrap_or v.listen DEFAULT_LISTEN.now
    → Gives Memory (Ok (record { mode = mode; store = store; workers = workers; listen = listen })) (ok_or (config_at v) Words)
whole v mode store workers listen m s w l =
    inl (sym (ap (λ o. ok_or o Words) (ap (λ o. config_from v o (store_of v.journal v.sqlite) (number_or 1 1 MOST_WORKERS v.workers)) m
    ∙ ap (λ o. config_from v (Some mode) o (number_or 1 1 MOST_WORKERS v.workers)) s
    ∙ ap (config_from v (Some mode) (Some store)) w
    ∙ ap (λ (t : Text). Some (record { mode = mode; store = store; workers = workers; listen = t })) (sym l))))

-- the text that is lent, or another one
pub lent_or : (o : Option (Bor Text)) (other lending : Bor Text) (copy : Text) → lending ≡ unwrap_or o other → Gives Memory (Ok copy) (let r : Result Text WordsFault = Ok lending.now in r)
    → copy ≡ unwrap_or (lent o) other.now
lent_or None other lending copy e (inl h) = cc h ∙ ap (λ (x : Bor Text). x.now) e
lent_or (Some t) other lending copy e (inl h) = cc h ∙ ap (λ (x : Bor Text). x.now) e
lent_or o other lending copy e (inr h) = cc h

pub no_words : {Z : Type 0} (text : Z → Text) (words : List Z) → length words < 1 → config_of (map text words) ≡ None
unfolding uses_of
no_words text [] h = refl
no_words text (w ∷ words) h = absurd (omega (arith, h))

pub behind_first : {Z : Type 0} (text : Z → Text) (words : List Z) → map text (take (length words - 1) (drop 1 words)) ≡ drop 1 (map text words)
behind_first text [] = refl
behind_first text (w ∷ words) = ap (map text) (take_all (suc (length words) - 1) words (omega arith))

-- what `clap` refuses
pub refused : (words : List Text) (fault : WordsFault) (result : Result Config WordsFault) → has_short_word (drop 1 words) ≡ false → IsErrAnd result (λ e. e ≡ fault)
    → (fault ≡ Memory) ⊎ ((fault ≡ Words) × (fault_of command_line words ≢ [])) → Gives Memory result (ok_or (config_of words) Words)
refused words fault (Err e) long is (inl memory) = inr (ap (λ (x : WordsFault). (let r : Result Config WordsFault = Err x in r)) (is ∙ memory))
refused words fault (Err e) long is (inr other) =
    inl (ap (λ (x : WordsFault). (let r : Result Config WordsFault = Err x in r)) (is ∙ other.0) ∙ sym (ap (λ o. ok_or o Words) (refused_config words long other.1)))
refused words fault (Ok x) long is h = absurd is
