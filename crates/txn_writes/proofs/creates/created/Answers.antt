use Rattle.std.proofs.Common.{◌≡◌, ◌∙◌, Err, None, Ok, inl, refl, sym}
use Rattle.row_model.specs.Step.{found}
use Rattle.txn_sessions.specs.Seen.{session_at, state_of}
use Rattle.txn_writes.proofs.WriteLaws.{barred, created-is, created-made, created-refused, creates, if-there_is_none, makes}
use Rattle.txn_writes.proofs.creates.created.Goals as goal

pub returns-in-Some : goal.returns-in-Some
returns-in-Some c =
    let m = c.args.machine.now in
    let none = if-there_is_none (found c.args.name (state_of m) (session_at m c.args.at) ≡ None) c.number_seen.result (sym c.is_some.ensures ∙ c.if-is_some.false) c.number_seen.ensures.none in
    barred m c.args.at _ _ _ c.in-Some.refusal (created-is m c.args.at c.args.name c.args.schema none) refl (inl (sym c.write_refusal.ensures ∙ c.in-Some.is))

pub returns-in-Some-table_refusal : goal.returns-in-Some-table_refusal
returns-in-Some-table_refusal c =
    let m = c.args.machine.now in
    let none = if-there_is_none (found c.args.name (state_of m) (session_at m c.args.at) ≡ None) c.number_seen.result (sym c.is_some.ensures ∙ c.if-is_some.false) c.number_seen.ensures.none in
    makes m c.args.at _ _ _ (Err c.in-Some-table_refusal.refusal) (created-is m c.args.at c.args.name c.args.schema none) refl (sym c.write_refusal.ensures ∙ c.in_default.is)
    (created-refused m c.args.at c.args.name c.args.schema c.in-Some-table_refusal.refusal (sym c.table_refusal.ensures ∙ c.in-Some-table_refusal.is))

pub returns : goal.returns
returns c =
    let m = c.args.machine.now in
    let none = if-there_is_none (found c.args.name (state_of m) (session_at m c.args.at) ≡ None) c.number_seen.result (sym c.is_some.ensures ∙ c.if-is_some.false) c.number_seen.ensures.none in
    let free = sym c.write_refusal.ensures ∙ c.in_default.is in
    let room = sym c.table_refusal.ensures ∙ c.in_default-table_refusal.is in
    rw c.seen-held.ensures (makes m c.args.at _ _ _ (Ok _) (created-is m c.args.at c.args.name c.args.schema none) refl free (
      creates m c.args.at c.in-Some-free_number.number _ c.in-Ok.version c.requires.sound c.requires.within refl c.in-Some-free_number.ensures.low c.in-Some-free_number.ensures.high,
      created-made m c.args.at c.args.name c.args.schema c.in-Some-free_number.number c.in-Ok.version room (rw c.seen-held.ensures at c.in-Some-free_number.ensures.free) c.in-Ok.ensures,
    ))
