use Rattle.std.proofs.Common.{List, [], ◌∷◌, ◌++◌, length, sym, ◌∙◌, ap, refl, arith, length-append}
use Rattle.grammar.specs.Grammar.{many, a_token, ◌▸◌}
use Rattle.grammar.specs.inner.ReaderResults.{rest_of}
use Rattle.grammar.specs.inner.Reading.{read}
use Rattle.grammar.proofs.Loops.{with_front, takes_some, many_step, all_pushed}
use Rattle.grammar.proofs.list.listed.Goals as goal

pub loop-alloc-smaller : goal.loop-alloc-smaller
loop-alloc-smaller g c = takes_some (a_token g.I.Item.between ▸ g.I.Item.part) refl (rest_of c.loop-alloc.reader) (c.in_ok-item.item, rest_of c.next.new.reader) c.in_ok-item.ensures.reads

pub loop-alloc-preserved : goal.loop-alloc-preserved
loop-alloc-preserved g c =
    let more = a_token g.I.Item.between ▸ g.I.Item.part in (
      ap (λ (z : List _). with_front z (read (many more) (rest_of c.next.new.reader))) c.in_ok-push-2.ensures.ok ∙
          (sym (many_step more refl c.loop-alloc.items (rest_of c.loop-alloc.reader) (rest_of c.next.new.reader) c.in_ok-item.item
          (sym c.at_next.ensures ∙ c.loop-alloc-test.true) c.in_ok-item.ensures.reads) ∙ c.loop-alloc.invariant.0),
      all_pushed g.I.Item.well_formed c.loop-alloc.items c.push-in-loop-alloc.new.self c.in_ok-item.item c.in_ok-push-2.ensures.ok c.loop-alloc.invariant.1 c.in_ok-item.ensures.well_formed,
      omega (arith, ap length c.in_ok-push-2.ensures.ok, length-append c.loop-alloc.items (c.in_ok-item.item ∷ [])),
    )
