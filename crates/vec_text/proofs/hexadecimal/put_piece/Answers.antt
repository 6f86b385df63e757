-- The digits that `hex` writes in small letters, in capitals.
use Rattle.std.proofs.Common.{List, ℕ, ◌∙◌, ap, subst, map, OnOk}
use Rattle.std.specs.Char.{to_ascii_uppercase}
use Rattle.vec_text.proofs.Digits.{all_raised, digits_utf8}
use Rattle.vec_text.proofs.hexadecimal.put_piece.Goals as goal

pub unreachable-requires-in_default-from_utf8 : goal.unreachable-requires-in_default-from_utf8
unreachable-requires-in_default-from_utf8 g c =
    c.in_default-from_utf8.ensures.cases.0
    (digits_utf8 c.args.bytes.now c.make_ascii_uppercase.new.self (c.make_ascii_uppercase.ensures.after ∙ ap (map to_ascii_uppercase) c.in-Ok.ensures.written ∙ all_raised c.args.bytes.now))

pub returns-clause-added : goal.returns-clause-added
returns-clause-added g c =
    subst (λ (digits : List ℕ). OnOk c.put.result (g.W.Takes.adds digits c.args.to.now c.put.new.self))
    (c.in-Ok-from_utf8.ensures.cases.0 ∙ c.make_ascii_uppercase.ensures.after ∙ ap (map to_ascii_uppercase) c.in-Ok.ensures.written ∙ all_raised c.args.bytes.now)
    c.put.ensures.added
