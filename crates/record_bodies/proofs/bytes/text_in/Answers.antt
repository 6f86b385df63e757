use Rattle.std.proofs.Common.{Some, sym, ap, ◌∙◌}
use Rattle.vec_base.specs.declared.value.Value.TheVariants.{Text}
use Rattle.record_bodies.proofs.ValueLaws.{utf8_text, no_text}
use Rattle.record_bodies.proofs.bytes.text_in.Goals as goal

pub returns-in_ok-from_text-in-Ok : goal.returns-in_ok-from_text-in-Ok
returns-in_ok-from_text-in-Ok c = ap (λ t. Some (Text t)) (c.in_ok-from_text-in-Ok.ensures ∙ c.in-Ok.ensures.cases.0) ∙ sym (utf8_text c.args.bytes.now c.in-Ok.ensures.cases.1)

pub returns-in-Err : goal.returns-in-Err
returns-in-Err c = sym (no_text c.args.bytes.now c.in-Err.ensures.cases.0)
