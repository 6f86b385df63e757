-- The digits of bytes spell them.
use Rattle.std.proofs.Common.{◌≡◌, List, ℕ, sym, ◌∙◌, subst, arith}
use Rattle.hex.specs.Hex.{IsBytes, encode_upper}
use Rattle.hex.proofs.HexLemmas.{decode_of-encode_upper}
use Rattle.vec_literal.specs.Bits.{SpellsBits}
use Rattle.vec_literal.proofs.BitsLaws.{decoded_spelled}
use Rattle.vec_literal.proofs.bits.write_bits.Goals as goal

pub returns-clause-reads_back : goal.returns-clause-reads_back
returns-clause-reads_back c =
    let fits : IsBytes c.args.vector.now = λ i. let f = c.type_inv.vector i in omega arith in
    let digits : c.from_string.result ≡ encode_upper c.args.vector.now = c.from_string.ensures ∙ c.in_ok-encode_upper.ensures in
    subst (λ (t : List ℕ). SpellsBits t c.args.vector.now) (sym digits) (decoded_spelled (encode_upper c.args.vector.now) c.args.vector.now (decode_of-encode_upper c.args.vector.now fits))
