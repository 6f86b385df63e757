-- The reader reads what is spelled.
use Rattle.std.proofs.Common.{◌≡◌, ℕ, zero, suc, ◌+◌, ◌-◌, ◌*◌, ◌<◌, eqb, Bool, true, false, ◌||◌, inl, inr, List, [], ◌∷◌, ◌++◌, Option, Some, None, refl, sym, ◌∙◌, ap, subst, append_assoc, arith}
use Rattle.std.specs.Prelude.{ℤ, not}
use Rattle.std.specs.Char.{is_ascii_digit, digit_value}
use Rattle.std.specs.List.{list_all}
use Rattle.std.specs.Str.Parse.{digits_value, digits_value_after}
use Rattle.std.specs.Option.{option_map, option_and_then}
use Rattle.std.proofs.lemmas.Bool.{and_parts, or_cases, eqb-true, eqb-false, ne_eqb, not-true, cond-false, cases_lt}
use Rattle.std.proofs.lemmas.List.{append-nil}
use Rattle.std.proofs.lemmas.List.Elements.{All-nil}
use Rattle.vec_literal.specs.Int8.{is_space, is_digits, IsBlank, SpellsNumber, SpellsElement, SpellsElements, SpellsInside, SpellsList, IsElement}
use Rattle.vec_literal.specs.declared.int8.Number.{Number}
use Rattle.vec_literal.specs.declared.int8.Stage.{Stage}
use Rattle.vec_literal.specs.declared.int8.Stage.TheVariants.{Start, Opened, Comma, Minus, Digits, Between, Closed}
use Rattle.vec_literal.specs.declared.int8.Reader.{Reader}
use Rattle.vec_literal.specs.inner.Int8Reading.{byte_of, more_digits, is_due, takes, stage_after, next_digit, with_element, ended, read_byte, read_bytes, reader_at}
use Rattle.vec_literal.proofs.Int8Kept.{digit_range, Shows, first_shows, more_below, more_above, more_shows, FitsAs, shown_fits, Kept, element_kept}
use Rattle.vec_literal.proofs.Int8Sound.{end_stage}

-- one byte is read, and then the rest
pub reads_on : (r t : Reader) (b : ℕ) (rest : List ℕ) → read_byte r b ≡ Some t → read_bytes r (b ∷ rest) ≡ read_bytes t rest
reads_on r t b rest e = ap (λ (o : Option Reader). option_and_then (λ next. read_bytes next rest) o) e

-- white space is one of four bytes
by_space : (P : ℕ → Type 0) → P 32 → P 9 → P 10 → P 13 → (b : ℕ) → is_space b ≡ true → P b
by_space P space tab feed return b h =
    let at : (c : ℕ) → eqb b c ≡ true → P c → P b = λ c e k. subst P (sym (eqb-true b c e)) k in
    elim (or_cases (eqb b 32 || eqb b 9 || eqb b 10) (eqb b 13) h) [
      | inl i ↦ elim (or_cases (eqb b 32 || eqb b 9) (eqb b 10) i) [
        | inl j ↦ elim (or_cases (eqb b 32) (eqb b 9) j) [ inl k ↦ at 32 k space | inr k ↦ at 9 k tab ]
        | inr j ↦ at 10 j feed
      ]
      | inr i ↦ at 13 i return
    ]

-- the reader at another stage
abbrev pub moved : Reader → Stage → Reader
moved r s = record r { stage = s }

-- a stage that white space leaves as it is
abbrev pub rests : Stage → Bool
rests Minus = false
rests (Digits n) = false
rests _ = true

pub space_stays : (s : Stage) (r : Reader) (b : ℕ) → rests s ≡ true → is_space b ≡ true → read_byte (moved r s) b ≡ Some (moved r s)
space_stays Start r b e h = by_space (λ c. read_byte (moved r Start) c ≡ Some (moved r Start)) refl refl refl refl b h
space_stays Opened r b e h = by_space (λ c. read_byte (moved r Opened) c ≡ Some (moved r Opened)) refl refl refl refl b h
space_stays Comma r b e h = by_space (λ c. read_byte (moved r Comma) c ≡ Some (moved r Comma)) refl refl refl refl b h
space_stays Between r b e h = by_space (λ c. read_byte (moved r Between) c ≡ Some (moved r Between)) refl refl refl refl b h
space_stays Closed r b e h = by_space (λ c. read_byte (moved r Closed) c ≡ Some (moved r Closed)) refl refl refl refl b h
space_stays _ r b e h = absurd (let f : false ≡ true = e in cc)

-- white space is passed
blank_stays : (w : List ℕ) (s : Stage) (r : Reader) (rest : List ℕ) → rests s ≡ true → IsBlank w → read_bytes (moved r s) (w ++ rest) ≡ read_bytes (moved r s) rest
blank_stays [] s r rest e h = refl
blank_stays (b ∷ w) s r rest e h =
    let k = and_parts _ _ h in
    reads_on (moved r s) (moved r s) b (w ++ rest) (space_stays s r b e k.0) ∙ blank_stays w s r rest e k.1

-- the ten digits

by_digit : (P : ℕ → Type 0) → P 0 → P 1 → P 2 → P 3 → P 4 → P 5 → P 6 → P 7 → P 8 → P 9 → (d : ℕ) → d < 10 → P d
by_digit P a b c d e f g h i j zero l = a
by_digit P a b c d e f g h i j (suc zero) l = b
by_digit P a b c d e f g h i j (suc (suc zero)) l = c
by_digit P a b c d e f g h i j (suc (suc (suc zero))) l = d
by_digit P a b c d e f g h i j (suc (suc (suc (suc zero)))) l = e
by_digit P a b c d e f g h i j (suc (suc (suc (suc (suc zero))))) l = f
by_digit P a b c d e f g h i j (suc (suc (suc (suc (suc (suc zero)))))) l = g
by_digit P a b c d e f g h i j (suc (suc (suc (suc (suc (suc (suc zero))))))) l = h
by_digit P a b c d e f g h i j (suc (suc (suc (suc (suc (suc (suc (suc zero)))))))) l = i
by_digit P a b c d e f g h i j (suc (suc (suc (suc (suc (suc (suc (suc (suc zero))))))))) l = j
by_digit P a b c d e f g h i j (suc (suc (suc (suc (suc (suc (suc (suc (suc (suc k)))))))))) l = absurd (omega arith)

by_ascii : (P : ℕ → Type 0) → P 48 → P 49 → P 50 → P 51 → P 52 → P 53 → P 54 → P 55 → P 56 → P 57 → (b : ℕ) → is_ascii_digit b ≡ true → P b
by_ascii P a b c d e f g h i j n k =
    let r = digit_range n k in
    let same : 48 + (n - 48) ≡ n = omega (arith, r.0) in
    subst P same (by_digit (λ m. P (48 + m)) a b c d e f g h i j (n - 48) (omega (arith, r.1)))

-- the reader within a number
abbrev pub within : Reader → Bool → ℕ → Reader
within r negative m = moved r (Digits (record { negative = negative; magnitude = m }))

-- the first digit
abbrev pub FirstRead : Stage → Bool → Reader → ℕ → Type 0
FirstRead s negative r b = read_byte (moved r s) b ≡ Some (within r negative (b - 48))

pub first_read : (s : Stage) (negative : Bool) (r : Reader) (b : ℕ) → takes negative s ≡ true → is_ascii_digit b ≡ true → FirstRead s negative r b
first_read Opened false r b e h = by_ascii (FirstRead Opened false r) refl refl refl refl refl refl refl refl refl refl b h
first_read Comma false r b e h = by_ascii (FirstRead Comma false r) refl refl refl refl refl refl refl refl refl refl b h
first_read Minus true r b e h = by_ascii (FirstRead Minus true r) refl refl refl refl refl refl refl refl refl refl b h
first_read _ false r b e h = absurd (let f : false ≡ true = e in cc)
first_read _ true r b e h = absurd (let f : false ≡ true = e in cc)

-- each further digit
abbrev pub NextRead : Bool → ℕ → Reader → ℕ → Type 0
NextRead negative m r b = read_byte (within r negative m) b ≡ Some (within r negative (more_digits m b))

pub next_read : (negative : Bool) (m : ℕ) (r : Reader) (b : ℕ) → 0 < m → is_ascii_digit b ≡ true → NextRead negative m r b
next_read negative m r b some h =
    let n : Number = record { negative = negative; magnitude = m } in
    let positive : eqb m 0 ≡ false = ne_eqb m 0 (λ e. omega arith) in
    let staged : (c : ℕ) → next_digit n c ≡ Some (Digits (record { negative = negative; magnitude = more_digits m c })) =
    λ c. cond-false (eqb m 0) None (Some (Digits (record { negative = negative; magnitude = more_digits m c }))) positive in
    let step : (c : ℕ) → option_map (λ s. moved (within r negative m) s) (next_digit n c) ≡ Some (within r negative (more_digits m c)) =
    λ c. ap (λ (o : Option Stage). option_map (λ s. moved (within r negative m) s) o) (staged c) in
    by_ascii (NextRead negative m r) (step 48) (step 49) (step 50) (step 51) (step 52) (step 53) (step 54) (step 55) (step 56) (step 57) b h

-- no magnitude falls back to zero

more_positive : (m d : ℕ) → 0 < m → 0 < more_digits m d
more_positive m d some =
    elim (cases_lt m 1000) [
      | inl few ↦ (let e = more_below m d few in omega (arith, e, some))
      | inr many ↦ (let e = more_above m d many in omega (arith, e, many))
    ]

first_positive : (d : ℕ) → is_ascii_digit d ≡ true → not (eqb d 48) ≡ true → 0 < d - 48
first_positive d h k =
    let r = digit_range d h in
    let other = eqb-false d 48 (not-true (eqb d 48) k) in
    elim (cases_lt 48 d) [ inl more ↦ omega (arith, more) | inr less ↦ absurd (other (omega (arith, less, r.0))) ]

-- all further digits
digits_read : (ds : List ℕ) (r : Reader) (negative : Bool) (m v : ℕ) (rest : List ℕ) → list_all is_ascii_digit ds ≡ true → 0 < m → Shows m v →
    (k : ℕ) × Shows k (digits_value_after 10 v ds) × (read_bytes (within r negative m) (ds ++ rest) ≡ read_bytes (within r negative k) rest)
digits_read [] r negative m v rest h some s = (m, s, refl)
digits_read (d ∷ ds) r negative m v rest h some s =
    let p = and_parts _ _ h in
    let t = digits_read ds r negative (more_digits m d) (v * 10 + digit_value d) rest p.1 (more_positive m d some) (more_shows m v d p.0 s) in
    (t.0, t.1, reads_on (within r negative m) (within r negative (more_digits m d)) d (ds ++ rest) (next_read negative m r d some p.0) ∙ t.2)

-- the digits of a number
number_read : (ds : List ℕ) (s : Stage) (negative : Bool) (r : Reader) (rest : List ℕ) → takes negative s ≡ true → is_digits ds ≡ true →
    (k : ℕ) × Shows k (digits_value 10 ds) × (read_bytes (moved r s) (ds ++ rest) ≡ read_bytes (within r negative k) rest)
number_read [] s negative r rest e h = absurd (let f : false ≡ true = h in cc)
number_read (d ∷ []) s negative r rest e h =
    (d - 48, first_shows d h, reads_on (moved r s) (within r negative (d - 48)) d rest (first_read s negative r d e h))
number_read (d ∷ c ∷ ds) s negative r rest e h =
    let p = and_parts _ _ h in
    let q = and_parts _ _ p.0 in
    let t = digits_read (c ∷ ds) r negative (d - 48) (digits_value 10 (d ∷ [])) rest p.1 (first_positive d q.0 q.1) (first_shows d q.0) in
    (t.0, t.1, reads_on (moved r s) (within r negative (d - 48)) d ((c ∷ ds) ++ rest) (first_read s negative r d e q.0) ∙ t.2)

-- a stage at which an element may begin
due_rests : (s : Stage) → is_due s ≡ true → rests s ≡ true
due_rests Opened h = refl
due_rests Comma h = refl
due_rests _ h = absurd (let f : false ≡ true = h in cc)

-- the sign and the digits of an element
pub sign_read : (s : Stage) (r : Reader) → is_due s ≡ true → read_byte (moved r s) 45 ≡ Some (moved r Minus)
sign_read Opened r h = refl
sign_read Comma r h = refl
sign_read _ r h = absurd (let f : false ≡ true = h in cc)

pub due_takes : (s : Stage) → is_due s ≡ true → takes false s ≡ true
due_takes Opened h = refl
due_takes Comma h = refl
due_takes _ h = absurd (let f : false ≡ true = h in cc)

-- a number with its sign, and whether it fits
signed_read : (s : Stage) (r : Reader) (t : List ℕ) (z : ℤ) (rest : List ℕ) → is_due s ≡ true → SpellsNumber t z →
    (n : Number) × FitsAs (byte_of n) z × (read_bytes (moved r s) (t ++ rest) ≡ read_bytes (moved r (Digits n)) rest)
signed_read s r t z rest due (ds, right, inl h) =
    let k = number_read ds s false r rest (due_takes s due) right in (
      record { negative = false; magnitude = k.0 },
      subst (λ (y : ℤ). FitsAs (byte_of (record { negative = false; magnitude = k.0 })) y) (sym h.1) (shown_fits false k.0 (digits_value 10 ds) k.1),
      ap (λ (x : List ℕ). read_bytes (moved r s) (x ++ rest)) h.0 ∙ k.2,
    )
signed_read s r t z rest due (ds, right, inr h) =
    let k = number_read ds Minus true r rest refl right in (
      record { negative = true; magnitude = k.0 },
      subst (λ (y : ℤ). FitsAs (byte_of (record { negative = true; magnitude = k.0 })) y) (sym h.1) (shown_fits true k.0 (digits_value 10 ds) k.1),
      ap (λ (x : List ℕ). read_bytes (moved r s) (x ++ rest)) h.0 ∙ reads_on (moved r s) (moved r Minus) 45 (ds ++ rest) (sign_read s r due) ∙ k.2,
    )

-- the byte ends a number, and behind an element it leads to the stage
pub record Ends (b : ℕ) (next : Stage) : Type 0 where
  pub no_digit : is_ascii_digit b ≡ false
  pub leads : stage_after Between b ≡ Some next

-- the reader with the number that it was within
abbrev pub added : Reader → Number → Reader
added r n = with_element (moved r (Digits n)) n

-- such a byte behind a number, and behind white space
pub number_ends : (r : Reader) (n : Number) (b : ℕ) (next : Stage) → Ends b next → read_byte (moved r (Digits n)) b ≡ Some (moved (added r n) next)
number_ends r n b next h =
    let with_it : ended (moved r (Digits n)) b ≡ added r n = cond-false (is_ascii_digit b) _ _ h.no_digit in
    ap (λ (t : Reader). option_map (λ s. moved t s) (stage_after (Digits n) b)) with_it
    ∙ ap (λ (o : Option Stage). option_map (λ s. moved (added r n) s) o) (end_stage n b h.no_digit ∙ h.leads)

element_ends : (r : Reader) (b : ℕ) (next : Stage) → Ends b next → read_byte (moved r Between) b ≡ Some (moved r next)
element_ends r b next h =
    let same : ended (moved r Between) b ≡ moved r Between = cond-false (is_ascii_digit b) _ _ h.no_digit in
    ap (λ (t : Reader). option_map (λ s. moved t s) (stage_after Between b)) same
    ∙ ap (λ (o : Option Stage). option_map (λ s. moved r s) o) h.leads

space_ends : (b : ℕ) → is_space b ≡ true → Ends b Between
space_ends b h = by_space (λ c. Ends c Between) (record { no_digit = refl; leads = refl }) (record { no_digit = refl; leads = refl }) (record { no_digit = refl; leads = refl }) (record { no_digit = refl; leads = refl }) b h

-- white space behind a number, and the mark that ends the element
after_number : (r : Reader) (n : Number) (after : List ℕ) (b : ℕ) (next : Stage) (rest : List ℕ) → IsBlank after → Ends b next →
    read_bytes (moved r (Digits n)) (after ++ b ∷ rest) ≡ read_bytes (moved (added r n) next) rest
after_number r n [] b next rest h k = reads_on (moved r (Digits n)) (moved (added r n) next) b rest (number_ends r n b next k)
after_number r n (c ∷ after) b next rest h k =
    let p = and_parts _ _ h in
    reads_on (moved r (Digits n)) (moved (added r n) Between) c (after ++ b ∷ rest) (number_ends r n c Between (space_ends c p.0))
    ∙ blank_stays after Between (added r n) (b ∷ rest) refl p.1
    ∙ reads_on (moved (added r n) Between) (moved (added r n) next) b rest (element_ends (added r n) b next k)

-- what the reader keeps of the elements so far
abbrev pub Keeps : Reader → List ℤ → Type 0
Keeps r zs = Kept r.misfit r.vector zs

-- an element, and the mark behind it
element_read : (s : Stage) (r : Reader) (zs : List ℤ) (e : List ℕ) (z : ℤ) (b : ℕ) (next : Stage) (rest : List ℕ) → is_due s ≡ true → SpellsElement e z → Ends b next → Keeps r zs →
    (t : Reader) × Keeps t (zs ++ z ∷ []) × (read_bytes (moved r s) (e ++ b ∷ rest) ≡ read_bytes (moved t next) rest)
element_read s r zs e z b next rest due h ends kept =
    let behind : List ℕ = h.after ++ b ∷ rest in
    let grouped : (h.before ++ (h.number ++ h.after)) ++ b ∷ rest ≡ h.before ++ (h.number ++ behind) = simp append_assoc in
    let (n, fits, read) = signed_read s r h.number z behind due h.spelled in (
      added r n,
      element_kept r.misfit (Digits n) r.vector n zs z fits kept,
      ap (λ (x : List ℕ). read_bytes (moved r s) (x ++ b ∷ rest)) h.whole
          ∙ ap (λ (x : List ℕ). read_bytes (moved r s) x) grouped
          ∙ blank_stays h.before s r (h.number ++ behind) (due_rests s due) h.blank_before
          ∙ read
          ∙ after_number r n h.after b next rest h.blank_after ends,
    )

-- the elements and the closing bracket
elements_read : (zs done : List ℤ) (s : Stage) (r : Reader) (inside rest : List ℕ) → is_due s ≡ true → SpellsElements inside zs → Keeps r done →
    (t : Reader) × Keeps t (done ++ zs) × (read_bytes (moved r s) (inside ++ 93 ∷ rest) ≡ read_bytes (moved t Closed) rest)
elements_read [] done s r inside rest due h kept = absurd h
elements_read (z ∷ []) done s r inside rest due h kept = element_read s r done inside z 93 Closed rest due h (record { no_digit = refl; leads = refl }) kept
elements_read (z ∷ y ∷ zs) done s r inside rest due (first, others, whole, head, tail) kept =
    let (t, some, read) = element_read s r done first z 44 Comma (others ++ 93 ∷ rest) due head (record { no_digit = refl; leads = refl }) kept in
    let (u, all, more) = elements_read (y ∷ zs) (done ++ z ∷ []) Comma t others rest refl tail some in (
      u,
      subst (λ (xs : List ℤ). Keeps u xs) (append_assoc done (z ∷ []) (y ∷ zs)) all,
      ap (λ (x : List ℕ). read_bytes (moved r s) (x ++ 93 ∷ rest)) whole
          ∙ ap (λ (x : List ℕ). read_bytes (moved r s) x) (append_assoc first (44 ∷ others) (93 ∷ rest))
          ∙ read
          ∙ more,
    )

-- what stands between the brackets, and the closing one
inside_read : (zs : List ℤ) (r : Reader) (inside rest : List ℕ) → SpellsInside inside zs → Keeps r [] →
    (t : Reader) × Keeps t zs × (read_bytes (moved r Opened) (inside ++ 93 ∷ rest) ≡ read_bytes (moved t Closed) rest)
inside_read zs r inside rest (inl h) kept =
    (r, subst (λ (xs : List ℤ). Keeps r xs) (sym h.0) kept, blank_stays inside Opened r (93 ∷ rest) refl h.1)
inside_read zs r inside rest (inr h) kept = elements_read zs [] Opened r inside rest refl h kept

-- a text in the form is read, and the reader keeps what it needs of the elements
pub list_reads : (text : List ℕ) (zs : List ℤ) → SpellsList text zs → (t : Reader) × Keeps t zs × (read_bytes (reader_at Start []) text ≡ Some (moved t Closed))
list_reads text zs l =
    let r : Reader = reader_at Start [] in
    let (t, kept, read) = inside_read zs r l.inside l.after l.elements (All-nil IsElement, refl) in (
      t,
      kept,
      ap (λ (x : List ℕ). read_bytes r x) l.whole
          ∙ blank_stays l.before Start r (91 ∷ (l.inside ++ 93 ∷ l.after)) refl l.blank_before
          ∙ read
          ∙ ap (λ (x : List ℕ). read_bytes (moved t Closed) x) (sym (append-nil l.after))
          ∙ blank_stays l.after Closed t [] refl l.blank_after,
    )
