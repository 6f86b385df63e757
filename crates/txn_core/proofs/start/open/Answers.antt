use Rattle.std.proofs.Common.{Some, sym, subst}
use Rattle.shadow_records.specs.Keys.{Tables}
use Rattle.shadow_records.specs.StandsFor.{IsDamaged}
use Rattle.txn_core.proofs.start.open.Goals as goal

pub returns-in-Err-Damaged-clause-damaged : goal.returns-in-Err-Damaged-clause-damaged
returns-in-Err-Damaged-clause-damaged g c told =
    rw c.in-Err-Damaged.field-0-is
    (subst (λ (t : Tables). IsDamaged t (Some c.in-Err-Damaged.number)) (sym (c.requires.tables told)) (c.in-Err-Damaged.ensures.damaged c.in-Err-Damaged.number c.in-Err-Damaged.field-0-is))
