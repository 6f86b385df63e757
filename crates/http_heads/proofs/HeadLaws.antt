-- What the bytes that were read say of all the bytes of a connection.
use Rattle.std.proofs.Common.{◌≡◌, ◌≤◌, ◌<◌, ◌⊎◌, inl, inr, Bool, ℕ, List, ◌++◌, None, Some, length, take, drop, sym, ap, ◌∙◌, subst, arith}
use Rattle.std.proofs.lemmas.List.{take-append-le, take-append-drop, append-nil, length-map, length-take-le, take_all}
use Rattle.std.specs.declared.option.Option.{Option}
use Rattle.httparse.specs.Grammar.{RequestHead, ReadsRequest, HasNoRequest, print_request}
use Rattle.httparse.specs.Spans.{IsRequestAt, IsRequestOf, IsRequestWithin, RequestOverflows, header_bytes, name_and_value}
use Rattle.httparse.specs.declared.spans.HeaderSpan.{HeaderSpan}
use Rattle.httparse.specs.declared.spans.RequestSpans.{RequestSpans}
use Rattle.httparse.proofs.GrammarLemmas.{ReadsRequest-append}
use Rattle.vec_base.specs.Streams.{Loses, NoneLeft}
use Rattle.http_link.specs.Links.{risen_by, has_risen}
use Rattle.http_link.proofs.RiseLaws.{risen_since}
use Rattle.http_heads.specs.Heads.{IsHead, HasNoHead, HeadOf, IfTold}
use Rattle.http_heads.specs.declared.head.Head.{Head}
use Rattle.http_heads.specs.declared.head.TheConstants.{HEAD_ROOM, MOST_FIELDS}

-- what holds whatever bytes are left holds of all bytes
pub for_all : (old new : Option (List ℕ)) (front : List ℕ) (answer : Head) → Loses old front new
    → ((left : List ℕ) → HeadOf (front ++ left) answer) → IfTold old answer
for_all None new front answer loses holds = tt
for_all (Some bytes) None front answer loses holds = absurd loses
for_all (Some bytes) (Some left) front answer loses holds = subst (λ all. HeadOf all answer) (sym loses) (holds left)

-- the same where no byte is left
pub at_end : (old new last : Option (List ℕ)) (front : List ℕ) (answer : Head) → Loses old front new → NoneLeft new
    → HeadOf front answer → IfTold old answer
at_end None new last front answer loses none holds = tt
at_end (Some bytes) None last front answer loses none holds = absurd loses
at_end (Some bytes) (Some left) last front answer loses none holds =
    subst (λ all. HeadOf all answer) (sym (loses ∙ ap (λ l. front ++ l) none ∙ append-nil front)) holds

-- a head that is no longer than the bytes that were read is at their front
in_front : (front left : List ℕ) (h : RequestHead) (rest : List ℕ) → ReadsRequest (front ++ left) h rest
    → length (print_request h) ≤ length front → (others : List ℕ) × ReadsRequest front h others
in_front front left h rest reads short =
    let count = length (print_request h) in
    let same : take count front ≡ print_request h =
    sym (take-append-le count front left short) ∙ ap (take count) reads.1
    ∙ take-append-le count (print_request h) rest (omega arith) ∙ take_all count (print_request h) (omega arith) in
    (drop count front, (reads.0, sym (take-append-drop count front) ∙ ap (λ l. l ++ drop count front) same))

-- a full buffer without a head
pub none_in_room : (front left : List ℕ) → HasNoRequest front → HEAD_ROOM ≤ length front → HasNoHead (front ++ left)
none_in_room front left none full h rest is =
    let (others, reads) = in_front front left h rest is.reads (omega (arith, full, is.short)) in
    none h others reads

pub none_at_end : (front : List ℕ) → HasNoRequest front → HasNoHead front
none_at_end front none h rest is = none h rest is.reads

-- bytes that only a head with too many fields begins with
pub too_many : (front left : List ℕ) (room : ℕ) → room ≡ MOST_FIELDS → RequestOverflows room front → HasNoHead (front ++ left)
too_many front left room is overflows h rest found =
    let more = overflows left h rest found.reads in
    omega (arith, more, is, found.few)

-- a head at the front of the bytes that were read is a head of all bytes
pub head_at : (front left : List ℕ) (headers : List HeaderSpan) (spans : RequestSpans) (h : RequestHead)
    → IsRequestAt front headers spans h → IsRequestWithin front headers spans
    → length headers ≡ MOST_FIELDS → length front ≤ HEAD_ROOM → IsHead (front ++ left) h (drop spans.len front ++ left)
head_at front left headers spans h at within room short =
    let same = ap length at.fields in
    record {
      reads = ReadsRequest-append front h _ left at.reads;
      short = omega (arith, at.len, within.section.len_fits, short);
      few = omega (arith, same, room, length-map (take spans.headers headers) (header_bytes front), length-map h.fields name_and_value, length-take-le spans.headers headers within.section.count_fits, within.section.count_fits);
    }

pub whole_head : (front left : List ℕ) (headers : List HeaderSpan) (spans : RequestSpans)
    → IsRequestOf front headers spans → IsRequestWithin front headers spans
    → length headers ≡ MOST_FIELDS → length front ≤ HEAD_ROOM
    → (h : RequestHead) × (rest : List ℕ) × IsHead (front ++ left) h rest
whole_head front left headers spans found within room short =
    (found.0, _, head_at front left headers spans found.0 found.1 within room short)

-- one read more, after none or some
pub risen_more : (filled : ℕ) (a b c : Option (List Bool)) (f g h : ℕ)
    → ((filled ≡ 0) × (b ≡ a) × (g ≡ f)) ⊎ (b ≡ risen_by (has_risen f g) a) → f ≤ g → g ≤ h
    → c ≡ risen_by (has_risen g h) b → c ≡ risen_by (has_risen f h) a
risen_more filled a b c f g h (inl (none, same, count)) first second two = risen_since a b c f g h (inl (same, count)) first second two
risen_more filled a b c f g h (inr one) first second two = risen_since a b c f g h (inr one) first second two

-- some bytes were read
pub risen_some : (filled : ℕ) (a b : Option (List Bool)) (f g : ℕ) → 0 < filled
    → ((filled ≡ 0) × (b ≡ a) × (g ≡ f)) ⊎ (b ≡ risen_by (has_risen f g) a) → b ≡ risen_by (has_risen f g) a
risen_some filled a b f g some (inl (none, same, count)) = absurd (omega (arith, some, none))
risen_some filled a b f g some (inr one) = one
