-- Records that are read one after another are the records of a text.
use Rattle.std.proofs.Common.{◌≡◌, ◌≤◌, ◌++◌, ◌∷◌, ◌∙◌, [], ℕ, List, Bool, Some, None, length, true, false, refl, ap, subst, arith, zero, suc}
use Rattle.std.specs.Prelude.{◌<◌, ◌+◌, ◌==◌, ◌||◌, if◌then◌else◌}
use Rattle.std.specs.declared.option.Option.{Option}
use Rattle.std.proofs.lemmas.Bool.{false≢true}
use Rattle.std.proofs.lemmas.List.{append-nil}
use Rattle.csv.specs.Machine.{Read, ends_at_end, field_after, fields_after, in_field, is_end, next_record, start_field, start_record, step}
use Rattle.csv.specs.Reading.{Reached, default_config, records, records_from}
use Rattle.csv.specs.declared.parser.Action.{Action}
use Rattle.csv.specs.declared.parser.State.{State}
use Rattle.csv.specs.declared.parser.State.TheVariants as st
use Rattle.csv_records.specs.Records.{Fields}

-- what ends a record leaves a state between two records
abbrev LeavesBetween : State × Action → Type 0
LeavesBetween p = is_end p.1 ≡ true → ends_at_end p.0 ≡ false

either : (b : Bool) (p q : State × Action) → LeavesBetween p → LeavesBetween q → LeavesBetween (if b then p else q)
either true p q f g = f
either false p q f g = g

line_end : (b : Bool) → ends_at_end (if b then st.AfterCr else st.StartRecord) ≡ false
line_end true = refl
line_end false = refl

field_byte : (c : ℕ) → LeavesBetween (in_field default_config c)
field_byte c = either (c == 44) _ _ (λ e. absurd (false≢true e)) (either (c == 13 || c == 10) _ _ (λ e. line_end (c == 13)) (λ e. absurd (false≢true e)))

first_byte : (c : ℕ) → LeavesBetween (start_field default_config c)
first_byte c = either (c == 34) _ _ (λ e. absurd (false≢true e)) (field_byte c)

record_byte : (c : ℕ) → LeavesBetween (start_record default_config c)
record_byte c = either (c == 13 || c == 10) _ _ (λ e. absurd (false≢true e)) (first_byte c)

any_byte : (s : State) (c : ℕ) → LeavesBetween (step default_config s c)
any_byte st.StartRecord c = record_byte c
any_byte st.StartField c = first_byte c
any_byte st.InField c = field_byte c
any_byte st.InQuoted c = either (c == 34) _ _ (λ e. absurd (false≢true e)) (λ e. absurd (false≢true e))
any_byte st.InEscape c = λ e. absurd (false≢true e)
any_byte st.AfterQuote c = either (c == 34) _ _ (λ e. absurd (false≢true e)) (field_byte c)
any_byte st.InComment c = either (c == 10) _ _ (λ e. absurd (false≢true e)) (λ e. absurd (false≢true e))
any_byte st.AfterCr c = either (c == 10) _ _ (λ e. absurd (false≢true e)) (record_byte c)

some_same : {A : Type 0} {x y : A} → Some x ≡ Some y → x ≡ y
some_same e = cc e

-- what holds of a choice holds of what is chosen
chosen : (b : Bool) (q : Read) (other : Option Read) (p : Read) (P : Read → Type 0) → (if b then Some q else other) ≡ Some p
    → (b ≡ true → P q) → (other ≡ Some p → P p) → P p
chosen true q other p P e f g = subst P (some_same e) (f refl)
chosen false q other p P e f g = g e

-- a record that is read leaves no more bytes than there were, between two records
left : (s : State) (fields : Fields) (field xs : List ℕ) (p : Read) → next_record default_config s fields field xs ≡ Some p
    → (length p.2 ≤ length xs) × (ends_at_end p.1 ≡ false)
unfolding next_record
left s fields field [] p e =
    chosen (ends_at_end s) _ None p (λ r. (length r.2 ≤ 0) × (ends_at_end r.1 ≡ false)) e (λ t. (omega arith, refl)) (λ n. absurd (cc n))
left s fields field (c ∷ rest) p e =
    chosen (is_end (step default_config s c).1) _ _ p (λ r. (length r.2 ≤ length (c ∷ rest)) × (ends_at_end r.1 ≡ false)) e
    (λ t. (omega arith, any_byte s c t))
    (λ n. let later = left (step default_config s c).0 (fields_after (step default_config s c).1 fields field) (field_after (step default_config s c).1 c field) rest p n in (omega (arith, later.0), later.1))

-- a record that begins between two records takes a byte
takes : (s : State) (xs : List ℕ) (p : Read) → ends_at_end s ≡ false → next_record default_config s [] [] xs ≡ Some p → length p.2 < length xs
unfolding next_record
takes s [] p between e = absurd (cc (rw between at e))
takes s (c ∷ rest) p between e =
    chosen (is_end (step default_config s c).1) _ _ p (λ r. length r.2 < length (c ∷ rest)) e
    (λ t. omega arith)
    (λ n. let later = left (step default_config s c).0 (fields_after (step default_config s c).1 [] []) (field_after (step default_config s c).1 c []) rest p n in omega (arith, later.0))

-- the records that were read are the first of all, and those from here on come behind them
reached : (s s2 : State) (xs ys : List ℕ) (rows : List Fields) (n : ℕ) → ends_at_end s ≡ false → length xs < n → Reached default_config s xs rows s2 ys
    → (m : ℕ) × (length ys < m) × (records_from default_config n s xs ≡ rows ++ records_from default_config m s2 ys)
unfolding Reached records_from
reached s s2 xs ys [] n between enough h = (n, rw (← h.1) enough, rw (h.0, h.1) refl)
reached s s2 xs ys (row ∷ rows) zero between enough h = absurd (omega arith)
reached s s2 xs ys (row ∷ rows) (suc n) between enough h =
    let less = takes s xs h.0 between h.1 in
    let later = reached h.0.1 s2 h.0.2 ys rows n (left s [] [] xs h.0 h.1).1 (omega arith) h.3 in
    (later.0, later.1, rw (h.1, h.2) (ap (λ (t : List Fields). h.0.0 ∷ t) later.2))

-- where no record comes from here on, those that were read are all
pub read_all : (xs : List ℕ) (rows : List Fields) (s : State) (ys : List ℕ) → Reached default_config st.StartRecord xs rows s ys
    → next_record default_config s [] [] ys ≡ None → records default_config xs ≡ rows
unfolding records_from
read_all xs rows s ys h none =
    let r = reached st.StartRecord s xs ys rows (length xs + 1) refl (omega arith) h in
    r.2 ∙ ap (λ t. rows ++ t) (no_more r.0) ∙ append-nil rows
  where
    no_more : (m : ℕ) → records_from default_config m s ys ≡ []
    no_more zero = refl
    no_more (suc m) = rw none refl

-- some records come behind those that were read, or none
pub read_first : (xs : List ℕ) (rows : List Fields) (s : State) (ys : List ℕ) → Reached default_config st.StartRecord xs rows s ys
    → (more : List Fields) × (records default_config xs ≡ rows ++ more)
read_first xs rows s ys h =
    let r = reached st.StartRecord s xs ys rows (length xs + 1) refl (omega arith) h in
    (records_from default_config r.0 s ys, r.2)
