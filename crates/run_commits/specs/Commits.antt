-- The commits of a run: those that its requests make or attempt.
use Rattle.std.specs.Prelude.{◌+◌, ◌==◌, if◌then◌else◌, Bool, true, false, List, [], ◌∷◌, Some, None}
use Rattle.std.specs.declared.option.Option.{Option}
use Rattle.vec_base.specs.declared.refusal.Refusal.TheVariants.{StoreFault, WantOfMemory}
use Rattle.row_model.specs.Step.{answer_of}
use Rattle.row_model.specs.declared.request.Reply.{Reply}
use Rattle.row_model.specs.declared.request.Reply.TheVariants.{Refused}
use Rattle.row_model.specs.declared.request.Request.{Request}
use Rattle.row_model.specs.declared.row.Catalog.{Catalog}
use Rattle.row_model.specs.declared.state.State.{State}

-- A commit with the catalog that it leads to: it was acknowledged, or answered by a fault of the store, or by want of memory.
pub data Commit : Type 0 where
  Acknowledged : Catalog → Commit
  Faulted : Catalog → Commit
  Starved : Catalog → Commit

abbrev pub catalog_of : Commit → Catalog
catalog_of (Acknowledged catalog) = catalog
catalog_of (Faulted catalog) = catalog
catalog_of (Starved catalog) = catalog

-- a commit with the reply
abbrev pub answered_by : Reply → Catalog → Commit
answered_by (Refused StoreFault) catalog = Faulted catalog
answered_by (Refused WantOfMemory) catalog = Starved catalog
answered_by _ catalog = Acknowledged catalog

-- the commit of a request at a state, where it makes or attempts one, with the reply that it got
abbrev pub commit_of : State → Request → Reply → Option Commit
commit_of state request reply =
    if (answer_of state request).1.commits == state.commits + 1
    then Some (answered_by reply (answer_of state request).1.catalog)
    else None

-- the reply is a fault of the store
abbrev pub is_fault : Reply → Bool
is_fault (Refused StoreFault) = true
is_fault reply = false

abbrev pub listed_commit : Option Commit → List Commit
listed_commit None = []
listed_commit (Some commit) = commit ∷ []

-- the catalog after the acknowledged ones of the commits
abbrev pub after : Catalog → List Commit → Catalog
after catalog [] = catalog
after catalog (Acknowledged new ∷ commits) = after new commits
after catalog (Faulted new ∷ commits) = after catalog commits
after catalog (Starved new ∷ commits) = after catalog commits

abbrev pub is_acknowledged : Commit → Bool
is_acknowledged (Acknowledged catalog) = true
is_acknowledged (Faulted catalog) = false
is_acknowledged (Starved catalog) = false
