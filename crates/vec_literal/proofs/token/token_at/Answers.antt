use Rattle.std.proofs.Common.{◌≡◌, ℕ, ◌+◌, ◌∙◌, length, arith, inl, inr, sym, subst}
use Rattle.std.specs.Char.{is_ascii_digit}
use Rattle.std.specs.List.{list_all}
use Rattle.vec_literal.specs.declared.token.TokenSort.TheVariants as sorts
use Rattle.vec_literal.specs.Tokens.{is_word_byte, is_mark_text}
use Rattle.vec_literal.specs.inner.Stretches.{EndsAt, EndsNowhere}
use Rattle.vec_literal.proofs.Runs.{run_to}
use Rattle.vec_literal.proofs.Sorts.{token_with, token_nowhere, blob_room, none_given}
use Rattle.vec_literal.proofs.token.token_at.Goals as goal

pub returns-in-Word : goal.returns-in-Word
returns-in-Word c =
    token_with c.sort_at-sort.result sorts.Word c.args.text.now c.args.from c.word_end-upto.result c.requires c.sort_at-sort.ensures c.in-Word.is
    (run_to is_word_byte c.args.text.now (c.args.from + 1) c.word_end-upto.result (omega arith) c.word_end-upto.ensures.run)

pub returns-in-Number : goal.returns-in-Number
returns-in-Number c =
    let run : EndsAt (list_all is_ascii_digit) c.args.text.now (c.args.from + 1) (length c.args.text.now) c.digits_end-upto.result =
    run_to is_ascii_digit c.args.text.now (c.args.from + 1) c.digits_end-upto.result (omega arith) c.digits_end-upto.ensures.run in
    elim c.in-Number.is [
      | inl e ↦ token_with c.sort_at-sort.result sorts.Number c.args.text.now c.args.from c.digits_end-upto.result c.requires c.sort_at-sort.ensures e run
      | inr e ↦ token_with c.sort_at-sort.result sorts.Param c.args.text.now c.args.from c.digits_end-upto.result c.requires c.sort_at-sort.ensures e run
    ]

pub returns-in_ok-upto-in-TextLit : goal.returns-in_ok-upto-in-TextLit
returns-in_ok-upto-in-TextLit c =
    token_with c.sort_at-sort.result sorts.TextLit c.args.text.now c.args.from c.in_ok-upto-in-TextLit.upto c.requires c.sort_at-sort.ensures c.in-TextLit.is c.in_ok-upto-in-TextLit.ensures

pub returns-in_err-upto-in-TextLit : goal.returns-in_err-upto-in-TextLit
returns-in_err-upto-in-TextLit c = none_given _ _ _ c.from_residual.ensures
    (token_nowhere c.sort_at-sort.result sorts.TextLit c.args.text.now c.args.from c.requires c.sort_at-sort.ensures c.in-TextLit.is c.in_err-upto-in-TextLit.ensures)

pub hex_end-requires : goal.hex_end-requires
hex_end-requires c = blob_room c.args.text.now c.args.from c.requires (sym c.sort_at-sort.ensures ∙ c.in-BlobLit.is)

pub returns-in_ok-upto-in-BlobLit : goal.returns-in_ok-upto-in-BlobLit
returns-in_ok-upto-in-BlobLit c =
    token_with c.sort_at-sort.result sorts.BlobLit c.args.text.now c.args.from c.in_ok-upto-in-BlobLit.upto c.requires c.sort_at-sort.ensures c.in-BlobLit.is c.in_ok-upto-in-BlobLit.ensures

pub returns-in_err-upto-in-BlobLit : goal.returns-in_err-upto-in-BlobLit
returns-in_err-upto-in-BlobLit c = none_given _ _ _ c.from_residual-in_err-upto-in-BlobLit.ensures
    (token_nowhere c.sort_at-sort.result sorts.BlobLit c.args.text.now c.args.from c.requires c.sort_at-sort.ensures c.in-BlobLit.is c.in_err-upto-in-BlobLit.ensures)

pub returns-in_ok-upto-in-Mark : goal.returns-in_ok-upto-in-Mark
returns-in_ok-upto-in-Mark c =
    let same : c.args.from ≡ c.args.from + 0 = omega arith in
    token_with c.sort_at-sort.result sorts.Mark c.args.text.now c.args.from c.in_ok-upto-in-Mark.upto c.requires c.sort_at-sort.ensures c.in-Mark.is
    (subst (λ (z : ℕ). EndsAt is_mark_text c.args.text.now z (length c.args.text.now) c.in_ok-upto-in-Mark.upto) same c.in_ok-upto-in-Mark.ensures)

pub returns-in_err-upto-in-Mark : goal.returns-in_err-upto-in-Mark
returns-in_err-upto-in-Mark c =
    let same : c.args.from ≡ c.args.from + 0 = omega arith in
    none_given _ _ _ c.from_residual-in_err-upto-in-Mark.ensures
    (token_nowhere c.sort_at-sort.result sorts.Mark c.args.text.now c.args.from c.requires c.sort_at-sort.ensures c.in-Mark.is
    (subst (λ (z : ℕ). EndsNowhere is_mark_text c.args.text.now z (length c.args.text.now)) same c.in_err-upto-in-Mark.ensures))
