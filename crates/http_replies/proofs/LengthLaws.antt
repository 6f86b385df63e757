-- How long heads, bodies and texts of refusals are.
use Rattle.std.proofs.Common.{◌≡◌, ℕ, ℤ, zero, suc, nat_lt, ltb-true, refl, inl, inr, FitsSigned, ◌+◌, ◌<◌, ◌≤◌, ◌^◌, Bool, true, false, ◌==◌, if◌then◌else◌, List, [], ◌∷◌, ◌++◌, length, get_or, codes, arith, length-append}
use Rattle.std.specs.Fmt.{decimal, signed_decimal}
use Rattle.std.specs.Int.{w64}
use Rattle.std.proofs.lemmas.Fmt.{length-decimal-le, length_signed_le}
use Rattle.std.specs.List.{list_all}
use Rattle.std.proofs.lemmas.Bool.{and_parts}
use Rattle.vec_base.specs.Refusals.{number_of}
use Rattle.vec_base.specs.Words.{unsupported_words}
use Rattle.vec_base.specs.declared.refusal.Refusal.{Refusal}
use Rattle.vec_base.specs.declared.refusal.Refusal.TheVariants.{Syntax, Unsupported, Parameter, TxnState, NoTable, TableExists, BadSchema, NoColumn, WrongType, VectorShape, NotNull, FixedColumn, KRange, KnnForm, Busy, OldSnapshot, Duplicate, RowidsSpent, Full, NoSavepoint, NoSession, NoCursor, TooManyRows, StoreFault, WantOfMemory}
use Rattle.vec_text.specs.RefusalTexts.{counted, signed_counted, unsupported_word, refusal_text}
use Rattle.row_model.specs.declared.request.Reply.TheVariants.{Inserted, Changed, Planned, Session, Cursor, Refused}
use Rattle.row_model.specs.declared.request.Shape.{Shape}
use Rattle.row_model.specs.declared.request.Shape.TheVariants.{Point, Scan, Nearest}
use Rattle.http_replies.specs.Statuses.{phrase, IsBadStatus}
use Rattle.http_replies.specs.Bodies.{body, bad_body}
use Rattle.http_replies.specs.Wire.{head, answer, bad_wire}

pub short_decimal : (n : ℕ) → n < 2 ^ 64 → length (decimal n) ≤ 20
short_decimal n fits = length-decimal-le 20 n (omega arith) (omega (arith, fits)) fits

pub short_signed : (z : ℤ) → FitsSigned w64 z → length (signed_decimal z) ≤ 20
short_signed z fits = length_signed_le 19 z (omega (arith, fits)) (omega (arith, fits))

pub counted_length : (words : List ℕ) (n : ℕ) → n < 2 ^ 64 → length (counted words n) ≤ length words + 20
counted_length words n fits = omega (arith, length-append words (decimal n), short_decimal n fits)

pub signed_length : (words : List ℕ) (z : ℤ) → FitsSigned w64 z → length (signed_counted words z) ≤ length words + 20
signed_length words z fits = omega (arith, length-append words (signed_decimal z), short_signed z fits)

-- a text in front of another one
pub two_lengths : {m n : ℕ} (a b : List ℕ) → length a ≤ m → length b ≤ n → length (a ++ b) ≤ m + n
two_lengths a b p q = omega (arith, length-append a b, p, q)

-- words with a number behind them
pub counted_short : (words : List ℕ) (n : ℕ) → length words ≤ 40 → n < 2 ^ 64 → length (counted words n) ≤ 60
counted_short words n few fits = omega (arith, counted_length words n fits, few)

pub signed_short : (words : List ℕ) (z : ℤ) → length words ≤ 40 → FitsSigned w64 z → length (signed_counted words z) ≤ 60
signed_short words z few fits = omega (arith, signed_length words z fits, few)

choice_short : (b : Bool) (x y : List ℕ) → length x ≤ 32 → length y ≤ 32 → length (if b then x else y) ≤ 32
choice_short true x y p q = p
choice_short false x y p q = q

pub phrase_short : (status : ℕ) → length (phrase status) ≤ 32
phrase_short status =
    choice_short (status == 200) _ _ (omega arith) (
    choice_short (status == 400) _ _ (omega arith) (
    choice_short (status == 404) _ _ (omega arith) (
    choice_short (status == 405) _ _ (omega arith) (
    choice_short (status == 409) _ _ (omega arith) (
    choice_short (status == 411) _ _ (omega arith) (
    choice_short (status == 413) _ _ (omega arith) (
    choice_short (status == 422) _ _ (omega arith) (
    choice_short (status == 500) _ _ (omega arith) (
    choice_short (status == 503) _ _ (omega arith) (
    choice_short (status == 507) _ _ (omega arith) (omega arith)))))))))))

five_short : (a b c d e : List ℕ) → length a ≤ 29 → length b ≤ 1 → length c ≤ 32 → length d ≤ 80 → length e ≤ 30 → length (a ++ b ++ c ++ d ++ e) ≤ 200
five_short a b c d e p q r s t =
    omega (arith, length-append (a ++ b ++ c ++ d) e, length-append (a ++ b ++ c) d, length-append (a ++ b) c, length-append a b, p, q, r, s, t)

head_start : (n : ℕ) → n < 2 ^ 64 → length (counted (codes "HTTP/1.1 ") n) ≤ 29
head_start n fits = counted_length (codes "HTTP/1.1 ") n fits

head_media : (words : List ℕ) (n : ℕ) → length words ≤ 60 → n < 2 ^ 64 → length (counted words n) ≤ 80
head_media words n few fits = omega (arith, counted_length words n fits, few)

pub head_short : (status size : ℕ) → status < 1000 → size < 2 ^ 64 → length (head status size) ≤ 200
head_short status size few fits =
    five_short (counted (codes "HTTP/1.1 ") status) (codes " ") (phrase status) (counted (codes "\r\nContent-Type: application/json\r\nContent-Length: ") size) (codes "\r\nConnection: close\r\n\r\n")
    (head_start status (omega (arith, few))) (omega arith) (phrase_short status)
    (head_media (codes "\r\nContent-Type: application/json\r\nContent-Length: ") size (omega arith) fits) (omega arith)

pub answer_short : (status : ℕ) (bytes : List ℕ) → status < 1000 → length bytes ≤ 200 → length (answer status bytes) ≤ 512
answer_short status bytes few short =
    omega (arith, length-append (head status (length bytes)) bytes, head_short status (length bytes) few (omega (arith, short)), short)

-- bodies

three_short : (a b c : List ℕ) → length a ≤ 60 → length b ≤ 60 → length c ≤ 80 → length (a ++ b ++ c) ≤ 200
three_short a b c p q r = omega (arith, length-append (a ++ b) c, length-append a b, p, q, r)

pub pair_short : (a b : List ℕ) → length a ≤ 60 → length b ≤ 40 → length (a ++ b) ≤ 200
pair_short a b p q = omega (arith, length-append a b, p, q)

pub bad_body_short : (status : ℕ) → status < 1000 → length (bad_body status) ≤ 200
bad_body_short status few = pair_short (counted (codes "{\"reply\":\"bad\",\"status\":") status) (codes "}") (counted_short (codes "{\"reply\":\"bad\",\"status\":") status (omega arith) (omega (arith, few))) (omega arith)

pub inserted_body : (count : ℕ) (last : ℤ) → count < 2 ^ 64 → FitsSigned w64 last → length (body (Inserted count last)) ≤ 200
inserted_body count last fits signed =
    three_short (counted (codes "{\"count\":") count) (signed_counted (codes ",\"last\":") last) (codes ",\"reply\":\"inserted\"}")
    (counted_short (codes "{\"count\":") count (omega arith) fits) (signed_short (codes ",\"last\":") last (omega arith) signed) (omega arith)

pub changed_body : (count : ℕ) → count < 2 ^ 64 → length (body (Changed count)) ≤ 200
changed_body count fits = pair_short (counted (codes "{\"count\":") count) (codes ",\"reply\":\"changed\"}") (counted_short (codes "{\"count\":") count (omega arith) fits) (omega arith)

pub session_body : (id : ℕ) → id < 2 ^ 64 → length (body (Session id)) ≤ 200
session_body id fits = pair_short (counted (codes "{\"reply\":\"session\",\"session\":") id) (codes "}") (counted_short (codes "{\"reply\":\"session\",\"session\":") id (omega arith) fits) (omega arith)

pub cursor_body : (number : ℕ) → number < 2 ^ 64 → length (body (Cursor number)) ≤ 200
cursor_body number fits = pair_short (counted (codes "{\"cursor\":") number) (codes ",\"reply\":\"cursor\"}") (counted_short (codes "{\"cursor\":") number (omega arith) fits) (omega arith)

pub planned_body : (shape : Shape) → length (body (Planned shape)) ≤ 200
planned_body Point = omega arith
planned_body Scan = omega arith
planned_body Nearest = omega arith

few_numbers : (refusal : Refusal) → number_of refusal ≤ 25
few_numbers (Syntax place) = omega arith
few_numbers (Unsupported word) = omega arith
few_numbers (Parameter index) = omega arith
few_numbers TxnState = omega arith
few_numbers NoTable = omega arith
few_numbers TableExists = omega arith
few_numbers (BadSchema rule) = omega arith
few_numbers (NoColumn index) = omega arith
few_numbers (WrongType column) = omega arith
few_numbers (VectorShape column wanted got) = omega arith
few_numbers (NotNull column) = omega arith
few_numbers (FixedColumn column) = omega arith
few_numbers (KRange k) = omega arith
few_numbers (KnnForm rule) = omega arith
few_numbers (Busy session) = omega arith
few_numbers (OldSnapshot at latest) = omega arith
few_numbers (Duplicate rowid) = omega arith
few_numbers RowidsSpent = omega arith
few_numbers (Full limit count) = omega arith
few_numbers NoSavepoint = omega arith
few_numbers NoSession = omega arith
few_numbers NoCursor = omega arith
few_numbers (TooManyRows count) = omega arith
few_numbers StoreFault = omega arith
few_numbers WantOfMemory = omega arith

four_short : (a b c d : List ℕ) → length a ≤ 60 → length b ≤ 36 → length c ≤ 102 → length d ≤ 2 → length (a ++ b ++ c ++ d) ≤ 200
four_short a b c d p q r s = omega (arith, length-append (a ++ b ++ c) d, length-append (a ++ b) c, length-append a b, p, q, r, s)

pub refused_body : (refusal : Refusal) → length (refusal_text refusal) ≤ 102 → length (body (Refused refusal)) ≤ 200
refused_body refusal short =
    four_short (counted (codes "{\"error\":") (number_of refusal)) (codes ",\"reply\":\"refused\",\"text\":\"") (refusal_text refusal) (codes "\"}")
    (counted_short (codes "{\"error\":") (number_of refusal) (omega arith) (omega (arith, few_numbers refusal))) (omega arith) short (omega arith)

-- texts of refusals

pub one_number : (words : List ℕ) (n : ℕ) → length words ≤ 40 → n < 2 ^ 64 → length (counted words n) ≤ 102
one_number words n few fits = omega (arith, counted_length words n fits, few)

pub one_signed : (words : List ℕ) (z : ℤ) → length words ≤ 40 → FitsSigned w64 z → length (signed_counted words z) ≤ 102
one_signed words z few fits = omega (arith, signed_length words z fits, few)

pub two_numbers : (words others : List ℕ) (n m : ℕ) → length words ≤ 20 → length others ≤ 20 → n < 2 ^ 64 → m < 2 ^ 64 → length (counted words n ++ counted others m) ≤ 102
two_numbers words others n m p q r s = omega (arith, length-append (counted words n) (counted others m), counted_length words n r, counted_length others m s, p, q)

pub three_numbers : (words others last : List ℕ) (n m k : ℕ) → length words ≤ 20 → length others ≤ 12 → length last ≤ 10 → n < 2 ^ 64 → m < 2 ^ 64 → k < 2 ^ 64 →
    length (counted words n ++ counted others m ++ counted last k) ≤ 102
three_numbers words others last n m k p q r s t u =
    omega (arith, length-append (counted words n ++ counted others m) (counted last k), length-append (counted words n) (counted others m), counted_length words n s, counted_length others m t, counted_length last k u, p, q, r)

-- the words of forms that are not supported

abbrev all_short : List (List ℕ) → Bool
all_short texts = list_all (λ text. nat_lt (length text) 60) texts

found_short : (texts : List (List ℕ)) (i : ℕ) (d : List ℕ) → all_short texts ≡ true → length d < 60 → length (get_or texts i d) < 60
found_short [] i d h short = short
found_short (t ∷ ts) zero d h short = ltb-true (length t) 60 (and_parts (nat_lt (length t) 60) (list_all (λ text. nat_lt (length text) 60) ts) h).0
found_short (t ∷ ts) (suc i) d h short = found_short ts i d (and_parts (nat_lt (length t) 60) (list_all (λ text. nat_lt (length text) 60) ts) h).1 short

pub unsupported_short : (word : ℕ) → length (codes "unsupported " ++ unsupported_word word) ≤ 102
unsupported_short word =
    let short : length (unsupported_word word) < 60 = found_short (codes "form" ∷ unsupported_words) word (codes "form") refl (omega arith) in
    omega (arith, length-append (codes "unsupported ") (unsupported_word word), short)

-- the answers to what is no request
bad_below : (status : ℕ) → IsBadStatus status → status < 1000
bad_below status (inl e) = omega (arith, e)
bad_below status (inr (inl e)) = omega (arith, e)
bad_below status (inr (inr (inl e))) = omega (arith, e)
bad_below status (inr (inr (inr (inl e)))) = omega (arith, e)
bad_below status (inr (inr (inr (inr e)))) = omega (arith, e)

pub bad_short : (status : ℕ) → IsBadStatus status → length (bad_wire status) ≤ 512
bad_short status bad = answer_short status (bad_body status) (bad_below status bad) (bad_body_short status (bad_below status bad))
