use Rattle.std.proofs.Common.{◌≡◌, ◌<◌, ℕ, suc, ◌+◌, ◌-◌, take, drop, get_or, length, arith, sym, ◌∙◌, ap, subst}
use Rattle.std.specs.List.{prefix_len}
use Rattle.std.proofs.lemmas.Str.{IsCharBoundary-before_ascii, IsCharBoundary-after_ascii}
use Rattle.http_replies.specs.inner.Plain.{is_plain, SplitsText}
use Rattle.http_replies.proofs.EscapeLaws.{all_plain, splits, special_ascii}
use Rattle.http_replies.proofs.escape.split_special.Goals as goal

pub returns-then-at-text : goal.returns-then-at-text
returns-then-at-text c =
    let counted : c.plain_length-at.result ≡ prefix_len is_plain c.args.text.now = c.plain_length-at.ensures.plain ∙ ap (prefix_len is_plain) c.as_bytes.ensures.value in
    all_plain c.args.text.now (omega (arith, counted, c.if-at-text.true))

pub range-requires-clause-end_boundary : goal.range-requires-clause-end_boundary
range-requires-clause-end_boundary c =
    let counted : c.plain_length-at.result ≡ prefix_len is_plain c.args.text.now = c.plain_length-at.ensures.plain ∙ ap (prefix_len is_plain) c.as_bytes.ensures.value in
    let within : c.plain_length-at.result < length c.args.text.now = omega arith in
    IsCharBoundary-before_ascii c.args.text.now c.plain_length-at.result within (special_ascii c.args.text.now c.plain_length-at.result (sym counted) within)

pub range_from-requires : goal.range_from-requires
range_from-requires c _ =
    let counted : c.plain_length-at.result ≡ prefix_len is_plain c.args.text.now = c.plain_length-at.ensures.plain ∙ ap (prefix_len is_plain) c.as_bytes.ensures.value in
    let within : c.plain_length-at.result < length c.args.text.now = omega arith in
    IsCharBoundary-after_ascii c.args.text.now c.plain_length-at.result c.utf8.text within (special_ascii c.args.text.now c.plain_length-at.result (sym counted) within)

pub returns : goal.returns
returns c =
    let counted : c.plain_length-at.result ≡ prefix_len is_plain c.args.text.now = c.plain_length-at.ensures.plain ∙ ap (prefix_len is_plain) c.as_bytes.ensures.value in
    let within : c.plain_length-at.result < length c.args.text.now = omega arith in
    let next : suc c.plain_length-at.result ≡ c.plain_length-at.result + 1 = omega arith in
    let front : c.range.result.now ≡ take c.plain_length-at.result c.args.text.now =
    c.range.ensures.value ∙ ap (λ (n : ℕ). take n c.args.text.now) (let e : c.plain_length-at.result - 0 ≡ c.plain_length-at.result = omega arith in e) in
    rw (front, c.range_from.ensures.value, c.as_bytes-2.ensures.value)
    (subst (λ (n : ℕ). SplitsText c.args.text.now (take c.plain_length-at.result c.args.text.now) (get_or c.args.text.now c.plain_length-at.result 0) (drop n c.args.text.now)) next
    (splits c.args.text.now c.plain_length-at.result (sym counted) within))
