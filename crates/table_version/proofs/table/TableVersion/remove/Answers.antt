use Rattle.std.proofs.Common.{◌-◌, ◌≤◌, ℕ, sym, subst, ◌∙◌}
use Rattle.table_version.specs.inner.StoredTables.{IsSound}
use Rattle.table_version.proofs.PutLaws.{made_origin}
use Rattle.table_version.proofs.RemoveLaws.{bytes_among, bytes_small, less_sound, less_table, was_some}
use Rattle.table_version.proofs.table.TableVersion.remove.Goals as goal

pub bytes_of-bytes-requires : goal.bytes_of-bytes-requires
bytes_of-bytes-requires c = let v = c.self.inside in bytes_small v.name v.schema v.top v.rows v.side_bytes c.args.rowid.now c.self.invariant

pub returns-in_err-was_there-clause-origin : goal.returns-in_err-was_there-clause-origin
returns-in_err-was_there-clause-origin c =
    let v = c.self.inside in
    made_origin c.args.self.now v.name v.schema v.top v.top v.rows c.remove.new.self v.side_bytes c.self.view_is c.self.invariant c.remove.ensures.origin

pub overflow_sub-self : goal.overflow_sub-self
overflow_sub-self c =
    let v = c.self.inside in
    subst (λ (n : ℕ). n ≤ v.side_bytes) (sym c.bytes_of-bytes.ensures) (bytes_among v.name v.schema v.top v.rows v.side_bytes c.args.rowid.now c.self.invariant)

pub invariant_of-self-2 : goal.invariant_of-self-2
invariant_of-self-2 c =
    let v = c.self.inside in
    subst (λ (n : ℕ). IsSound v.name v.schema v.top c.remove.new.self (v.side_bytes - n)) (sym c.bytes_of-bytes.ensures)
    (less_sound v.name v.schema v.top v.rows c.remove.new.self v.side_bytes c.args.rowid.now c.self.invariant c.in_ok-was_there.ensures.rows c.remove.ensures.shape)

pub returns-clause-table : goal.returns-clause-table
returns-clause-table c =
    let v = c.self.inside in
    less_table c.args.self.now v.name v.schema v.top v.rows c.remove.new.self c.args.rowid.now c.self.view_is c.in_ok-was_there.ensures.rows

pub returns-clause-answer : goal.returns-clause-answer
returns-clause-answer c =
    let v = c.self.inside in
    c.in_ok-was_there.ensures.answer ∙ was_some c.args.self.now v.name v.schema v.top v.rows c.args.rowid.now c.self.view_is

pub returns-clause-origin : goal.returns-clause-origin
returns-clause-origin c =
    let v = c.self.inside in
    made_origin c.args.self.now v.name v.schema v.top v.top v.rows c.remove.new.self v.side_bytes c.self.view_is c.self.invariant c.remove.ensures.origin
