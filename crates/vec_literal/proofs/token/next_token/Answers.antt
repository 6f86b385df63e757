use Rattle.std.proofs.Common.{◌≡◌, ◌<◌, ℕ, sym, ◌∙◌, ap, subst, arith, length, get_or, false}
use Rattle.vec_literal.specs.Tokens.{IsWhite, is_white, tokens}
use Rattle.vec_literal.proofs.Lexing.{white_run, white_stops, white_left_out, tokens_end, tokens_bad, tokens_found}
use Rattle.vec_literal.proofs.token.next_token.Goals as goal

pub returns-then-start-text-clause-next : goal.returns-then-start-text-clause-next
returns-then-start-text-clause-next c =
    let white : IsWhite c.args.text.now c.args.from c.white_end-start.result = white_run c.args.text.now c.args.from c.white_end-start.result c.requires c.white_end-start.ensures.run in
    subst (λ (z : ℕ). IsWhite c.args.text.now c.args.from z) c.if-start-text.true white

pub returns-then-start-text-clause-tokens : goal.returns-then-start-text-clause-tokens
returns-then-start-text-clause-tokens c =
    white_left_out c.args.text.now c.args.from c.white_end-start.result (white_run c.args.text.now c.args.from c.white_end-start.result c.requires c.white_end-start.ensures.run) ∙
    tokens_end c.args.text.now c.white_end-start.result c.if-start-text.true

pub returns-in-Some-clause-next : goal.returns-in-Some-clause-next
returns-in-Some-clause-next c =
    let white : IsWhite c.args.text.now c.args.from c.white_end-start.result = white_run c.args.text.now c.args.from c.white_end-start.result c.requires c.white_end-start.ensures.run in
    (subst (λ (z : ℕ). IsWhite c.args.text.now c.args.from z) (sym c.in-Some.ensures.begins) white, c.in-Some.ensures.token)

pub returns-in-Some-clause-tokens : goal.returns-in-Some-clause-tokens
returns-in-Some-clause-tokens c =
    let more : c.white_end-start.result < length c.args.text.now = omega (arith, c.white_end-start.ensures.inside, c.if-start-text.false) in
    let stops : is_white (get_or c.args.text.now c.white_end-start.result 0) ≡ false = white_stops c.args.text.now c.args.from c.white_end-start.result c.white_end-start.ensures.run more in
    white_left_out c.args.text.now c.args.from c.white_end-start.result (white_run c.args.text.now c.args.from c.white_end-start.result c.requires c.white_end-start.ensures.run) ∙
    (ap (λ (z : ℕ). tokens c.args.text.now z) (sym c.in-Some.ensures.begins) ∙
    tokens_found c.args.text.now c.in-Some.token c.in-Some.ensures.token (ap (λ (z : ℕ). is_white (get_or c.args.text.now z 0)) c.in-Some.ensures.begins ∙ stops))

pub returns-in-None-clause-next : goal.returns-in-None-clause-next
returns-in-None-clause-next c =
    let more : c.white_end-start.result < length c.args.text.now = omega (arith, c.white_end-start.ensures.inside, c.if-start-text.false) in (
      white_run c.args.text.now c.args.from c.white_end-start.result c.requires c.white_end-start.ensures.run,
      more,
      white_stops c.args.text.now c.args.from c.white_end-start.result c.white_end-start.ensures.run more,
      c.in-None.ensures,
    )

pub returns-in-None-clause-tokens : goal.returns-in-None-clause-tokens
returns-in-None-clause-tokens c =
    let more : c.white_end-start.result < length c.args.text.now = omega (arith, c.white_end-start.ensures.inside, c.if-start-text.false) in
    white_left_out c.args.text.now c.args.from c.white_end-start.result (white_run c.args.text.now c.args.from c.white_end-start.result c.requires c.white_end-start.ensures.run) ∙
    tokens_bad c.args.text.now c.white_end-start.result more (white_stops c.args.text.now c.args.from c.white_end-start.result c.white_end-start.ensures.run more) c.in-None.ensures
