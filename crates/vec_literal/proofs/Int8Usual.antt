-- Reading the usual form of an int8 literal element by element, told of the reader of bytes.
use Rattle.std.proofs.Common.{◌≡◌, ℕ, zero, suc, ◌+◌, ◌*◌, ◌-◌, ◌<◌, ◌≤◌, length, take, drop, get_or, length-drop, Bool, true, false, List, [], ◌∷◌, ◌++◌, Option, Some, None, refl, sym, ◌∙◌, ap, subst, arith}
use Rattle.std.specs.Prelude.{IfSome, Ok}
use Rattle.std.specs.Char.{is_ascii_digit}
use Rattle.std.proofs.Math.Seq.{take-add}
use Rattle.std.proofs.lemmas.List.{take_all, take-take, length-take}
use Rattle.vec_literal.specs.declared.int8.Number.{Number}
use Rattle.vec_literal.specs.declared.int8.Stage.{Stage}
use Rattle.vec_literal.specs.declared.int8.Stage.TheVariants.{Start, Opened, Comma, Minus, Digits, Closed}
use Rattle.vec_literal.specs.declared.int8.Reader.{Reader}
use Rattle.vec_literal.specs.declared.usual_int8.Element.{Element}
use Rattle.vec_literal.specs.declared.usual_int8.ReadNumber.{ReadNumber}
use Rattle.vec_literal.specs.inner.Int8Reading.{byte_of, more_digits, with_byte, read_byte, read_bytes, reader_at, is_due, ReadsDigits, ReadsNumber, ReadsElement, ReadsWhole}
use Rattle.vec_literal.proofs.Int8Kept.{more_below}
use Rattle.vec_literal.proofs.Int8Complete.{first_read, next_read, sign_read, due_takes, moved, Ends, number_ends}
use Rattle.vec_literal.proofs.Int8Laws.{Reads, read_more, reads_on_by, reads_next, Answers, ok_answers}

abbrev pub number_of : Bool → ℕ → Number
number_of negative magnitude = record { negative = negative; magnitude = magnitude }

-- the first digit
pub digits_begun : (text : List ℕ) (negative : Bool) (from value : ℕ) → from < length text → is_ascii_digit (get_or text from 0) ≡ true → get_or text from 0 ≡ value + 48 →
    ReadsDigits negative text from (from + 1) (number_of negative value)
digits_begun text negative from value within digit same = record {
  rising = omega arith;
  inside = omega arith;
  reads = λ start stage vector due read.
      (let shown : get_or text from 0 - 48 ≡ value = omega (arith, same) in
      reads_on_by start text (reader_at stage vector) (reader_at (Digits (number_of negative value)) vector) from within read
      (first_read stage negative (reader_at stage vector) (get_or text from 0) due digit ∙ ap (λ (m : ℕ). Some (reader_at (Digits (number_of negative m)) vector)) shown));
}

-- a digit more
digits_more : (text : List ℕ) (negative : Bool) (from end magnitude value : ℕ) → ReadsDigits negative text from end (number_of negative magnitude) → 0 < magnitude → magnitude < 1000 →
    end < length text → is_ascii_digit (get_or text end 0) ≡ true → get_or text end 0 ≡ value + 48 → ReadsDigits negative text from (end + 1) (number_of negative (magnitude * 10 + value))
digits_more text negative from end magnitude value so_far some few within digit same = record {
  rising = omega (arith, so_far.rising);
  inside = omega arith;
  reads = λ start stage vector due read.
      (let shown : more_digits magnitude (get_or text end 0) ≡ magnitude * 10 + value = more_below magnitude (get_or text end 0) few ∙ ap (λ (d : ℕ). magnitude * 10 + d) (let d : get_or text end 0 - 48 ≡ value = omega (arith, same) in d) in
      reads_on_by start text (reader_at (Digits (number_of negative magnitude)) vector) (reader_at (Digits (number_of negative (magnitude * 10 + value))) vector) end within (so_far.reads start stage vector due read)
      (next_read negative magnitude (reader_at Start vector) (get_or text end 0) some digit ∙ ap (λ (m : ℕ). Some (reader_at (Digits (number_of negative m)) vector)) shown));
}

pub two_digits : (text : List ℕ) (negative : Bool) (from magnitude value : ℕ) → ReadsDigits negative text from (from + 1) (number_of negative magnitude) → 0 < magnitude → magnitude < 1000 →
    from + 1 < length text → is_ascii_digit (get_or text (from + 1) 0) ≡ true → get_or text (from + 1) 0 ≡ value + 48 → ReadsDigits negative text from (from + 2) (number_of negative (magnitude * 10 + value))
two_digits text negative from magnitude value one some few within digit same =
    let count : from + 1 + 1 ≡ from + 2 = omega arith in
    subst (λ (n : ℕ). ReadsDigits negative text from n (number_of negative (magnitude * 10 + value))) count (digits_more text negative from (from + 1) magnitude value one some few within digit same)

pub three_digits : (text : List ℕ) (negative : Bool) (from magnitude value : ℕ) → ReadsDigits negative text from (from + 2) (number_of negative magnitude) → 0 < magnitude → magnitude < 1000 →
    from + 2 < length text → is_ascii_digit (get_or text (from + 2) 0) ≡ true → get_or text (from + 2) 0 ≡ value + 48 → ReadsDigits negative text from (from + 3) (number_of negative (magnitude * 10 + value))
three_digits text negative from magnitude value two some few within digit same =
    let count : from + 2 + 1 ≡ from + 3 = omega arith in
    subst (λ (n : ℕ). ReadsDigits negative text from n (number_of negative (magnitude * 10 + value))) count (digits_more text negative from (from + 2) magnitude value two some few within digit same)

-- a number without a sign, and one behind its sign

plain_number : (text : List ℕ) (spelling : ℕ) (n : Number) → ReadsDigits false text 0 spelling n → ReadsNumber text spelling n
plain_number text spelling n r = record { some = r.rising; inside = r.inside; reads = λ stage vector due. r.reads (reader_at stage vector) stage vector (due_takes stage due) refl }

minus_number : (text : List ℕ) (spelling : ℕ) (n : Number) → 0 < length text → get_or text 0 0 ≡ 45 → ReadsDigits true text 1 spelling n → ReadsNumber text spelling n
minus_number text spelling n within minus r = record {
  some = omega (arith, r.rising);
  inside = r.inside;
  reads = λ stage vector due.
      r.reads (reader_at stage vector) Minus vector refl
      (reads_on_by (reader_at stage vector) text (reader_at stage vector) (reader_at Minus vector) 0 within refl
      (ap (λ (b : ℕ). read_byte (reader_at stage vector) b) minus ∙ sign_read stage (reader_at stage vector) due));
}

pub some_plain : (text : List ℕ) (read : Option ReadNumber) → IfSome read (λ r. ReadsDigits false text 0 r.length r.number) → IfSome read (λ r. ReadsNumber text r.length r.number)
some_plain text (Some r) h = plain_number text r.length r.number h
some_plain text None h = h

pub some_minus : (text : List ℕ) (read : Option ReadNumber) → 0 < length text → get_or text 0 0 ≡ 45 → IfSome read (λ r. ReadsDigits true text 1 r.length r.number) → IfSome read (λ r. ReadsNumber text r.length r.number)
some_minus text (Some r) within minus h = minus_number text r.length r.number within minus h
some_minus text None within minus h = h

-- what is read in the first bytes of a text is read in the text
in_front : (n : ℕ) (text : List ℕ) (e : Element) → ReadsElement (take n text) e.length e.byte → ReadsElement text e.length e.byte
in_front n text e (number, fits, within, r) =
    let few : length (take n text) ≤ length text = omega (arith, length-take n text) in
    let less : e.length ≤ n = omega (arith, within, length-take n text) in (
      number,
      fits,
      omega (arith, within, few),
      record {
        some = r.some;
        inside = omega (arith, r.inside, few);
        reads = λ stage vector due. ap (λ (t : List ℕ). read_bytes (reader_at stage vector) t) (sym (take-take e.length n text less)) ∙ r.reads stage vector due;
      },
    )

pub some_in_front : (n : ℕ) (text : List ℕ) (read : Option Element) → IfSome read (λ e. ReadsElement (take n text) e.length e.byte) → IfSome read (λ e. ReadsElement text e.length e.byte)
some_in_front n text (Some e) h = in_front n text e h
some_in_front n text None h = h

-- an element may come next, and the vector has those before it
pub record AwaitsElement (text vector : List ℕ) (from : ℕ) : Type 0 where
  pub some : 0 < from
  pub inside : from ≤ length text
  pub stage : Stage
  pub due : is_due stage ≡ true
  pub read : Reads (take from text) (reader_at stage vector)

pub opened : (text : List ℕ) → 0 < length text → get_or text 0 0 ≡ 91 → AwaitsElement text [] 1
opened text some bracket = record {
  some = omega arith;
  inside = omega arith;
  stage = Opened;
  due = refl;
  read = reads_next text (reader_at Start []) (reader_at Opened []) 0 some refl (ap (λ (b : ℕ). read_byte (reader_at Start []) b) bracket);
}

-- the element that comes next
number_read : (text vector : List ℕ) (from spelling : ℕ) (n : Number) → AwaitsElement text vector from → ReadsNumber (drop from text) spelling n → Reads (take (from + spelling) text) (reader_at (Digits n) vector)
number_read text vector from spelling n so_far number =
    ap (λ (t : List ℕ). read_bytes (reader_at Start []) t) (take-add from spelling text)
    ∙ read_more (take from text) (take spelling (drop from text)) (reader_at Start []) (reader_at so_far.stage vector) so_far.read
    ∙ number.reads so_far.stage vector so_far.due

-- the mark behind it
mark_read : (text vector : List ℕ) (from spelling byte mark : ℕ) (next : Stage) → AwaitsElement text vector from → ReadsElement (drop from text) spelling byte → get_or text (from + spelling) 0 ≡ mark → Ends mark next →
    Reads (take (from + spelling + 1) text) (reader_at next (vector ++ byte ∷ []))
mark_read text vector from spelling byte mark next so_far (n, fits, within, number) same ends =
    reads_next text (reader_at (Digits n) vector) (reader_at next (vector ++ byte ∷ [])) (from + spelling) (omega (arith, within, length-drop from text)) (number_read text vector from spelling n so_far number)
    (ap (λ (b : ℕ). read_byte (reader_at (Digits n) vector) b) same
    ∙ number_ends (reader_at (Digits n) vector) n mark next ends
    ∙ ap (λ (o : Option ℕ). Some (moved (with_byte (reader_at (Digits n) vector) o) next)) fits)

-- spaces behind a comma
spaces_read : (text vector : List ℕ) (from : ℕ) (k : ℕ) → from + k ≤ length text → ((i : ℕ) → from ≤ i → i < from + k → get_or text i 0 ≡ 32) →
    Reads (take from text) (reader_at Comma vector) → Reads (take (from + k) text) (reader_at Comma vector)
spaces_read text vector from zero within spaces read = subst (λ (n : ℕ). Reads (take n text) (reader_at Comma vector)) (let e : from ≡ from + 0 = omega arith in e) read
spaces_read text vector from (suc k) within spaces read =
    let so_far = spaces_read text vector from k (omega arith) (λ i low high. spaces i low (omega arith)) read in
    let next : from + k + 1 ≡ from + suc k = omega arith in
    subst (λ (n : ℕ). Reads (take n text) (reader_at Comma vector)) next
    (reads_next text (reader_at Comma vector) (reader_at Comma vector) (from + k) (omega arith) so_far (ap (λ (b : ℕ). read_byte (reader_at Comma vector) b) (spaces (from + k) (omega arith) (omega arith))))

pub next_awaits : (text vector : List ℕ) (from spelling byte upto : ℕ) → AwaitsElement text vector from → ReadsElement (drop from text) spelling byte → get_or text (from + spelling) 0 ≡ 44 →
    from + spelling + 1 ≤ upto → upto ≤ length text → ((i : ℕ) → from + spelling + 1 ≤ i → i < upto → get_or text i 0 ≡ 32) → AwaitsElement text (vector ++ byte ∷ []) upto
next_awaits text vector from spelling byte upto so_far element comma behind within spaces =
    let count : from + spelling + 1 + (upto - (from + spelling + 1)) ≡ upto = omega arith in
    record {
      some = omega arith;
      inside = within;
      stage = Comma;
      due = refl;
      read = subst (λ (n : ℕ). Reads (take n text) (reader_at Comma (vector ++ byte ∷ []))) count
          (spaces_read text (vector ++ byte ∷ []) (from + spelling + 1) (upto - (from + spelling + 1)) (omega (arith, count)) (λ i low high. spaces i low (omega (arith, count)))
          (mark_read text vector from spelling byte 44 Comma so_far element comma (record { no_digit = refl; leads = refl })));
    }

pub closed_whole : (text vector : List ℕ) (from spelling byte : ℕ) → AwaitsElement text vector from → ReadsElement (drop from text) spelling byte → get_or text (from + spelling) 0 ≡ 93 → from + spelling + 1 ≡ length text →
    ReadsWhole text (vector ++ byte ∷ [])
closed_whole text vector from spelling byte so_far element bracket last =
    subst (λ (t : List ℕ). Reads t (reader_at Closed (vector ++ byte ∷ []))) (take_all (from + spelling + 1) text (omega (arith, last)))
    (mark_read text vector from spelling byte 93 Closed so_far element bracket (record { no_digit = refl; leads = refl }))

-- what is read in the usual form is the answer
pub usual_answers : (text vector result : List ℕ) → ReadsWhole text vector → result ≡ vector → Answers text (Ok result)
usual_answers text vector result read same = subst (λ (v : List ℕ). Answers text (Ok v)) (sym same) (ok_answers text vector read)
