use Rattle.std.proofs.Common.{◌≡◌, false, ap, subst, ◌∙◌}
use Rattle.row_model.specs.Check.{is_nearest}
use Rattle.row_model.specs.declared.statement.Select.{Select}
use Rattle.txn_reads.proofs.OpeningLaws.{opening-of}
use Rattle.txn_reads.proofs.ReadingLaws.{plain-planned}
use Rattle.txn_reads.specs.Searches.{Counts}
use Rattle.txn_sessions.specs.Seen.{session_at, state_of}
use Rattle.txn_sessions.specs.Takes.{Takes}
use Rattle.txn_reads.proofs.opening.open_cursor.Goals as goal

pub returns-in-Ok-clause-free : goal.returns-in-Ok-clause-free
returns-in-Ok-clause-free g c plain =
    let ready = c.in-Ok.ensures.ready in
    let other : is_nearest c.in-Ok.plan.select.where_terms ≡ false = ap (λ (s : Select). is_nearest s.where_terms) c.in-Ok.ensures.select ∙ plain in
    subst (λ (s : Select). Takes c.args.machine.now (opening-of c.args.machine.now c.args.at s) c.open_over.result c.open_over.new.machine) c.in-Ok.ensures.select
    (c.open_over.ensures.free (plain-planned ready.version.table.schema.columns c.in-Ok.plan ready.planned other))

pub returns-in-Ok-clause-counts : goal.returns-in-Ok-clause-counts
returns-in-Ok-clause-counts g c =
    subst (λ (s : Select). Counts (state_of c.args.machine.now) (session_at c.args.machine.now c.args.at) s c.args.workers c.open_over.result c.args.steps.now c.open_over.new.steps) c.in-Ok.ensures.select c.open_over.ensures.counts
