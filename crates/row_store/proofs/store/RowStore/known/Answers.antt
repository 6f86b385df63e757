use Rattle.std.proofs.Common.{subst}
use Rattle.row_store.proofs.ReadLaws.{AreRows, rows-known}
use Rattle.row_store.proofs.store.RowStore.known.Goals as goal

facts : (c : goal.After-known-2) → AreRows c.args.self.now.size c.args.self.now.widths c.args.self.now.rows
facts c =
    let store = c.self.inside in
    let rows = store.rows in
    subst (λ s. AreRows s.size s.widths s.rows) c.self.view_is (rows-known rows.parts rows.places rows.index rows.claim store.shape c.self.invariant.tied c.known.ensures.rising c.self.invariant.shapes c.known-2.ensures c.self.invariant.sized)

pub returns-clause-rising : goal.returns-clause-rising
returns-clause-rising c = (facts c).rising

pub returns-clause-positive : goal.returns-clause-positive
returns-clause-positive c = (facts c).positive

pub returns-clause-narrow : goal.returns-clause-narrow
returns-clause-narrow c = (facts c).narrow

pub returns-clause-within : goal.returns-clause-within
returns-clause-within c = (facts c).within

pub returns-clause-widths : goal.returns-clause-widths
returns-clause-widths c = (facts c).wide

pub returns-clause-apart : goal.returns-clause-apart
returns-clause-apart c = (facts c).apart

pub returns-clause-alike : goal.returns-clause-alike
returns-clause-alike c = (facts c).alike
