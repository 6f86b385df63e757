use Rattle.std.proofs.Common.{rules, ap, sym, ◌∙◌, List}
use Rattle.vec_literal.specs.Tokens.{Token}
use Rattle.grammar.specs.Grammar.{a_name}
use Rattle.grammar.specs.inner.Reading.{read}
use Rattle.grammar.specs.inner.ReaderResults.{rest_of}
use Rattle.table_attach.proofs.NameLaws.{none_read, other_read}
use Rattle.table_attach.proofs.name.read_name.Goals as goal

pub returns-else-eq-clause-none : goal.returns-else-eq-clause-none
returns-else-eq-clause-none c =
    let reads = ap (λ (z : List Token). read a_name z) (sym c.new.ensures) ∙ c.in-Ok.ensures.reads in
    λ damaged. other_read c.args.bytes.now c.in-Ok.name (rest_of c.name.new.self) reads (search rules)

pub returns-in-Err-Here-clause-none : goal.returns-in-Err-Here-clause-none
returns-in-Err-Here-clause-none c =
    let reads = rw c.in-Err-Here.field-0-is at c.in-Err-Here.ensures.reads in
    λ damaged. none_read c.args.bytes.now (rest_of c.name.new.self) (ap (λ (z : List Token). read a_name z) (sym c.new.ensures) ∙ reads)
