use Rattle.std.proofs.Common.{◌∙◌, ap, sym}
use Rattle.csv_records.proofs.FieldLaws.{at_end, one_more}
use Rattle.csv_records.proofs.reading.texts_of.Goals as goal

pub loop-field-preserved : goal.loop-field-preserved
loop-field-preserved c =
    let inv = c.loop-field.invariant in
    let s = c.in-Some.ensures.steps in
    let e = rw inv.0 at s.1 in
    (ap (λ r. r.now) s.0 ∙ inv.0, rw (c.in_ok-push.ensures.ok, c.in_ok-from_text.ensures, inv.1, s.2) (sym (one_more _ _ _ e)))

pub returns : goal.returns
returns c =
    let inv = c.loop-field.invariant in
    let s = c.in-None.ensures.steps in
    let e = rw inv.0 at s.1 in
    inv.1 ∙ at_end _ _ e
