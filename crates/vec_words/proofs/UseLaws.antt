-- What the scan gives are the uses that the words spell, each name at most once.
use Rattle.std.proofs.Common.{◌≡◌, ◌++◌, ℕ, List, [], ◌∷◌, Option, Some, None, refl, ap, ap₂, true, false, Bool, ◌∙◌, sym, map}
use Rattle.std.specs.Prelude.{◌==◌, not, ◌&&◌, ◌||◌, cond, bytes_eq, find, slice_get, option_and_then}
use Rattle.std.specs.List.{list_any, list_all, before_first, after_first}
use Rattle.std.proofs.lemmas.List.Folds.{list_any-append}
use Rattle.clap.specs.Lexer.{long_of, short_of}
use Rattle.clap.specs.Walk.{Row, first_of, has_row}
use Rattle.vec_words.proofs.Scanning.{scan, word_as}
use Rattle.vec_words.proofs.Turns.{add, own, row}
use Rattle.vec_words.proofs.Walking.{Fine, or-neither, own-repeat, own-use}
use Rattle.vec_words.specs.Uses.{Form, Text, Use, are_once, awaiting, form_of, is_equals, is_option, mode_name, plain, stray, uses_by, uses_of, value_of, with_use, with_value}
use Rattle.vec_words.specs.inner.CommandLine.{has_short_word, is_short, is_short_behind}

-- ---- words by their hyphens

-- what a word is by the name and the value that `clap` finds in it
abbrev form_by : Bool → Text → Option Text → Form
form_by true name None = awaiting name
form_by true name (Some value) = with_value name value
form_by false name value = stray

abbrev form_from : Option (Text × Option Text) → Form
form_from None = plain
form_from (Some (name, value)) = form_by (is_option name) name value

record IsRead (word : Text) : Type 0 where
  form : form_of word ≡ form_from (long_of word)
  dashes : bytes_eq word (45 ∷ 45 ∷ []) ≡ false
  short : short_of word ≡ None

option_read : (name value : Text) (option equals : Bool)
    → cond (not option) stray (cond equals (with_value name value) (awaiting name)) ≡ form_by option name (cond equals (Some value) None)
option_read name value true true = refl
option_read name value true false = refl
option_read name value false equals = refl

was_true : (b : Bool) → not b ≡ false → b ≡ true
was_true true e = refl
was_true false e = cc e

read_second : (b : ℕ) (text : Text) → (b == 45) ≡ true → is_short_behind text ≡ false → IsRead (b ∷ text)
read_second b [] first h = cc h
read_second b (c ∷ []) first h = cc h
read_second b (c ∷ d ∷ ds) first h =
    let second : (c == 45) ≡ true = was_true (c == 45) h in
    record {
      form = rw (first, second) (option_read (before_first is_equals (d ∷ ds)) (after_first is_equals (d ∷ ds)) (is_option (before_first is_equals (d ∷ ds))) (list_any is_equals (d ∷ ds)));
      dashes = rw (first, second) refl;
      short = rw (first, second) refl;
    }

read_first : (b : ℕ) (text : Text) (x : Bool) → (b == 45) ≡ x → (x && is_short_behind text) ≡ false → IsRead (b ∷ text)
read_first b text true e h = read_second b text e h
read_first b text false e h = record { form = rw e refl; dashes = rw e refl; short = rw e refl }

-- a word that is not short is read by `clap` as it is here
read : (word : Text) → is_short word ≡ false → IsRead word
read [] h = record { form = refl; dashes = refl; short = refl }
read (b ∷ text) h = read_first b text (b == 45) refl h

pub fine : (words : List Text) → has_short_word words ≡ false → Fine words
fine [] h = tt
fine (word ∷ words) h =
    let both = or-neither (is_short word) (has_short_word words) h in
    let r = read word both.0 in
    (r.dashes, r.short, fine words both.1)

-- ---- short words

stray_second : (b : ℕ) (text : Text) → (b == 45) ≡ true → is_short_behind text ≡ true → form_of (b ∷ text) ≡ stray
stray_second b [] first h = rw first refl
stray_second b (c ∷ []) first h = rw first (alone (c == 45))
  where
    alone : (x : Bool) → cond x stray stray ≡ stray
    alone true = refl
    alone false = refl
stray_second b (c ∷ d ∷ ds) first h = rw (first, other (c == 45) h) refl
  where
    other : (x : Bool) → not x ≡ true → x ≡ false
    other true e = cc e
    other false e = refl

stray_first : (b : ℕ) (text : Text) (x : Bool) → (b == 45) ≡ x → (x && is_short_behind text) ≡ true → form_of (b ∷ text) ≡ stray
stray_first b text true e h = stray_second b text e h
stray_first b text false e h = cc h

short_stray : (word : Text) → is_short word ≡ true → form_of word ≡ stray
short_stray [] h = cc h
short_stray (b ∷ text) h = stray_first b text (b == 45) refl h

never_after : (awaited : Option Text) (word : Text) (form : Form) (rest : Option Text → Option (List Use)) → ((a : Option Text) → rest a ≡ None)
    → uses_by awaited word form rest ≡ None
never_after None word (with_value name value) rest h = ap (with_use (name, value)) (h None)
never_after None word (awaiting name) rest h = h (Some name)
never_after None word plain rest h = ap (with_use (mode_name, word)) (h None)
never_after None word stray rest h = refl
never_after (Some name) word (with_value other value) rest h = refl
never_after (Some name) word (awaiting other) rest h = refl
never_after (Some name) word plain rest h = ap (with_use (name, word)) (h None)
never_after (Some name) word stray rest h = refl

never_stray : (awaited : Option Text) (word : Text) (rest : Option Text → Option (List Use)) → uses_by awaited word stray rest ≡ None
never_stray None word rest = refl
never_stray (Some name) word rest = refl

never_word : (words : List Text) (awaited : Option Text) (word : Text) → (has_short_word words ≡ true → (a : Option Text) → uses_of a words ≡ None)
    → (x : Bool) → is_short word ≡ x → (x || has_short_word words) ≡ true → uses_by awaited word (form_of word) (λ next. uses_of next words) ≡ None
never_word words awaited word never true e h =
    ap (λ form. uses_by awaited word form (λ next. uses_of next words)) (short_stray word e) ∙ never_stray awaited word (λ next. uses_of next words)
never_word words awaited word never false e h = never_after awaited word (form_of word) (λ next. uses_of next words) (never h)

-- words with a short one among them spell no uses
pub short_never : (words : List Text) (awaited : Option Text) → has_short_word words ≡ true → uses_of awaited words ≡ None
unfolding uses_of
short_never [] awaited h = cc h
short_never (word ∷ words) awaited h = never_word words awaited word (λ g a. short_never words a g) (is_short word) refl h

-- ---- the scan

-- a row stands among the rows once its use was added
mode_kept : (name : Text) (rows more : List Row) → has_row name rows ≡ true → has_row name (rows ++ more) ≡ true
mode_kept name rows more h = list_any-append (λ r. bytes_eq r.id name) rows more ∙ ap (λ (b : Bool). b || has_row name more) h

mode_added : (rows : List Row) (value : Text) → has_row mode_name (rows ++ row mode_name value ∷ []) ≡ true
mode_added rows value = list_any-append (λ r. bytes_eq r.id mode_name) rows (row mode_name value ∷ []) ∙ last (has_row mode_name rows)
  where
    last : (b : Bool) → (b || true) ≡ true
    last true = refl
    last false = refl

-- once the mode was met, it has its row
abbrev HasMet : Bool → List Row → Type 0
HasMet met rows = met ≡ true → has_row mode_name rows ≡ true

-- a use is added to the rows by both in the same way
one_use : (rows : List Row) (name value : Text) (a b : Option (List Use)) → ((has_row name rows ≡ false) → own (rows ++ row name value ∷ []) a ≡ own (rows ++ row name value ∷ []) b)
    → (x : Bool) → has_row name rows ≡ x → own rows (with_use (name, value) a) ≡ own rows (with_use (name, value) b)
one_use rows name value a b h true e = own-repeat rows name value a e ∙ sym (own-repeat rows name value b e)
one_use rows name value a b h false e = own-use rows name value a e ∙ h e ∙ sym (own-use rows name value b e)

-- a word, where the rest of the words is alike
abbrev Alike : List Text → Type 0
Alike words = (met : Bool) (awaited : Option Text) (rows : List Row) → HasMet met rows → own rows (scan met awaited words) ≡ own rows (uses_of awaited words)

abbrev scanned : List Text → Bool → Option Text → Option (List Use)
scanned words met awaited = scan met awaited words

abbrev spelled : List Text → Option Text → Option (List Use)
spelled words awaited = uses_of awaited words

one_option : (words : List Text) → Alike words → (met : Bool) (rows : List Row) → HasMet met rows → (word name : Text) (value : Option Text) (x : Bool) → is_option name ≡ x
    → own rows (word_as met None word (Some (name, value)) None (scanned words)) ≡ own rows (uses_by None word (form_by (is_option name) name value) (spelled words))
one_option words alike met rows m word name None true e = rw e (alike met (Some name) rows m)
one_option words alike met rows m word name (Some value) true e =
    rw e (one_use rows name value (scan met None words) (uses_of None words) (λ _. alike met None (rows ++ row name value ∷ []) (λ t. mode_kept mode_name rows (row name value ∷ []) (m t))) (has_row name rows) refl)
one_option words alike met rows m word name None false e = rw e refl
one_option words alike met rows m word name (Some value) false e = rw e refl

one_word : (words : List Text) → Alike words → (met : Bool) (awaited : Option Text) (rows : List Row) → HasMet met rows → (word : Text) (long : Option (Text × Option Text))
    → own rows (word_as met awaited word long None (scanned words)) ≡ own rows (uses_by awaited word (form_from long) (spelled words))
one_word words alike met None rows m word (Some (name, value)) = one_option words alike met rows m word name value (is_option name) refl
one_word words alike true None rows m word None = sym (own-repeat rows mode_name word (uses_of None words) (m refl))
one_word words alike false None rows m word None =
    one_use rows mode_name word (scan true None words) (uses_of None words) (λ _. alike true None (rows ++ row mode_name word ∷ []) (λ _. mode_added rows word)) (has_row mode_name rows) refl
one_word words alike met (Some name) rows m word None =
    one_use rows name word (scan met None words) (uses_of None words) (λ _. alike met None (rows ++ row name word ∷ []) (λ t. mode_kept mode_name rows (row name word ∷ []) (m t))) (has_row name rows) refl
one_word words alike met (Some name) rows m word (Some (other, None)) = go (is_option other)
  where
    go : (x : Bool) → own rows None ≡ own rows (uses_by (Some name) word (form_by x other None) (spelled words))
    go true = refl
    go false = refl
one_word words alike met (Some name) rows m word (Some (other, Some value)) = go (is_option other)
  where
    go : (x : Bool) → own rows None ≡ own rows (uses_by (Some name) word (form_by x other (Some value)) (spelled words))
    go true = refl
    go false = refl

-- words of which none is short are scanned to the uses that they spell
pub scan_spells : (words : List Text) → has_short_word words ≡ false → Alike words
unfolding scan uses_of
scan_spells [] h met None rows m = refl
scan_spells [] h met (Some name) rows m = refl
scan_spells (word ∷ words) h met awaited rows m =
    let both = or-neither (is_short word) (has_short_word words) h in
    let r = read word both.0 in
    ap (λ short. own rows (word_as met awaited word (long_of word) short (scanned words))) r.short
    ∙ one_word words (scan_spells words both.1) met awaited rows m word (long_of word)
    ∙ ap (λ form. own rows (uses_by awaited word form (spelled words))) (sym r.form)

-- ---- uses as rows

abbrev pub row_of_use : Use → Row
row_of_use one = row one.0 one.1

-- none of the uses has a row already
abbrev are_new : List Row → List Use → Bool
are_new rows uses = list_all (λ one. not (has_row one.0 rows)) uses

regroup : (a b c d : Bool) → (not (a || b) && (c && not d)) ≡ ((not a && c) && not (b || d))
regroup true b c d = refl
regroup false true true d = refl
regroup false true false d = refl
regroup false false true true = refl
regroup false false true false = refl
regroup false false false d = refl

new_behind : (rows : List Row) (one : Use) (uses : List Use)
    → are_new (rows ++ row_of_use one ∷ []) uses ≡ (are_new rows uses && not (list_any (λ other. bytes_eq one.0 other.0) uses))
new_behind rows one [] = refl
new_behind rows one (other ∷ uses) =
    ap₂ (λ (a b : Bool). not a && b) (list_any-append (λ r. bytes_eq r.id other.0) rows (row_of_use one ∷ []) ∙ ap (λ (b : Bool). has_row other.0 rows || b) (last (bytes_eq one.0 other.0))) (new_behind rows one uses)
    ∙ regroup (has_row other.0 rows) (bytes_eq one.0 other.0) (are_new rows uses) (list_any (λ other. bytes_eq one.0 other.0) uses)
  where
    last : (b : Bool) → (b || false) ≡ b
    last true = refl
    last false = refl

choose : {A : Type 0} (h o m n : Bool) (a : A) → cond h None (cond (o && (n && m)) (Some a) None) ≡ cond ((m && o) && (not h && n)) (Some a) None
choose true true true n a = refl
choose true true false n a = refl
choose true false true n a = refl
choose true false false n a = refl
choose false true true true a = refl
choose false true true false a = refl
choose false true false true a = refl
choose false true false false a = refl
choose false false true n a = refl
choose false false false n a = refl

append_one : (rows : List Row) (r : Row) (more : List Row) → (rows ++ r ∷ []) ++ more ≡ rows ++ r ∷ more
append_one [] r more = refl
append_one (x ∷ rows) r more = ap (λ l. x ∷ l) (append_one rows r more)

added : (rows : List Row) (uses : List Use) → add rows uses ≡ cond (are_once uses && are_new rows uses) (Some (rows ++ map row_of_use uses)) None
added rows [] = ap (λ l. Some l) (sym (nothing rows))
  where
    nothing : (rows : List Row) → rows ++ [] ≡ rows
    nothing [] = refl
    nothing (r ∷ rows) = ap (λ l. r ∷ l) (nothing rows)
added rows (one ∷ uses) =
    ap (cond (has_row one.0 rows) None) (added (rows ++ row_of_use one ∷ []) uses
    ∙ ap₂ (λ (b : Bool) l. cond (are_once uses && b) (Some l) None) (new_behind rows one uses) (append_one rows (row_of_use one) (map row_of_use uses)))
    ∙ choose (has_row one.0 rows) (are_once uses) (not (list_any (λ other. bytes_eq one.0 other.0) uses)) (are_new rows uses) (rows ++ map row_of_use (one ∷ uses))

all_new : (uses : List Use) → are_new [] uses ≡ true
all_new [] = refl
all_new (one ∷ uses) = all_new uses

-- the rows of uses are theirs in their order, where no name stands twice
pub rows_are : (uses : List Use) → add [] uses ≡ cond (are_once uses) (Some (map row_of_use uses)) None
rows_are uses = added [] uses ∙ ap (λ (b : Bool). cond b (Some (map row_of_use uses)) None) (ap (λ (b : Bool). are_once uses && b) (all_new uses) ∙ last (are_once uses))
  where
    last : (b : Bool) → (b && true) ≡ b
    last true = refl
    last false = refl

-- and the first value of a name is that of its use
pub value_found : (name : Text) (uses : List Use) → first_of name (map row_of_use uses) ≡ value_of name uses
value_found name [] = refl
value_found name (one ∷ uses) = go (bytes_eq one.0 name) (value_found name uses)
  where
    go : (b : Bool) → first_of name (map row_of_use uses) ≡ value_of name uses
        → option_and_then (λ r. slice_get r.values 0) (cond b (Some (row_of_use one)) (find (λ r. bytes_eq r.id name) (map row_of_use uses))) ≡ cond b (Some one.1) (value_of name uses)
    go true ih = refl
    go false ih = ih
