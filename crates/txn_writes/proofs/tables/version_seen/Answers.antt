use Rattle.std.proofs.Common.{Option, IsSome, sym, subst}
use Rattle.std.proofs.lemmas.Bool.{false≢true}
use Rattle.table_version.specs.Versions.{VersionState}
use Rattle.txn_writes.proofs.tables.version_seen.Goals as goal

pub unreachable-requires : goal.unreachable-requires
unreachable-requires c =
    let none = rw c.seen.ensures at c.in-None.ensures in
    let P : Option VersionState → Type 0 = λ o. IsSome o in
    absurd (false≢true (subst P (sym none) c.requires.there))

pub returns : goal.returns
returns c = sym (rw c.seen.ensures at c.in-Some.ensures)
