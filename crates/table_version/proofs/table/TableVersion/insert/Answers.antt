use Rattle.std.proofs.Common.{rules, ◌≡◌, None}
use Rattle.table_version.proofs.PutLaws.{none_refused}
use Rattle.table_version.proofs.table.TableVersion.insert.Goals as goal

pub returns-in-Ok-clause-welcome : goal.returns-in-Ok-clause-welcome
returns-in-Ok-clause-welcome c =
    let none : c.refusal.result ≡ None = search rules in
    none_refused _ c.refusal.result c.refusal.ensures none
