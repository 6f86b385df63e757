-- What takes no memory, but for the commit that it may come to.
use Rattle.std.specs.Prelude.{Bool, true, false}
use Rattle.row_model.specs.declared.statement.Statement.{Statement}
use Rattle.row_model.specs.declared.statement.Statement.TheVariants.{Begin, Commit, Explain, Release, Rollback, RollbackTo, Savepoint}

abbrev pub needs_no_memory : Statement → Bool
needs_no_memory (Begin immediate) = true
needs_no_memory Commit = true
needs_no_memory Rollback = true
needs_no_memory (RollbackTo name) = true
needs_no_memory (Savepoint name) = true
needs_no_memory (Release name) = true
needs_no_memory (Explain select) = true
needs_no_memory _ = false
