-- What requests make of one session.
use Rattle.std.specs.Prelude.{ℕ, Bool, false, true, if◌then◌else◌, List, [], ◌∷◌, ◌++◌, take, Some, None}
use Rattle.std.specs.declared.option.Option.{Option}
use Rattle.row_model.specs.declared.row.Catalog.{Catalog}
use Rattle.row_model.specs.declared.state.Phase.{Phase}
use Rattle.row_model.specs.declared.state.Phase.TheVariants.{Reading, Writing}
use Rattle.row_model.specs.declared.state.Session.{Session}
use Rattle.row_model.specs.Machine.{is_idle}
use Rattle.row_model.specs.Step.{given_back}

-- a transaction begins or ends: no marks
abbrev pub entered : Phase → Session → Session
entered phase s = record s { phase = phase; marks = []; by_savepoint = false }

abbrev pub begun_phase : Bool → Catalog → ℕ → Phase
begun_phase immediate catalog commits = if immediate then Writing commits catalog else Reading catalog commits

-- one mark more
abbrev pub with_mark : List ℕ → Catalog → Session → Session
with_mark name catalog s = record s { marks = s.marks ++ record { name = name; catalog = catalog } ∷ [] }

-- and a transaction that it begins, where there is one
abbrev pub saved_with : List ℕ → Catalog → Option Phase → Session → Session
saved_with name catalog None s = with_mark name catalog s
saved_with name catalog (Some phase) s = record (with_mark name catalog s) { phase = phase; by_savepoint = true }

-- an idle session begins a transaction with a mark
abbrev pub phase_of_mark : Catalog → ℕ → Phase → Option Phase
phase_of_mark catalog commits phase = if is_idle phase then Some (Reading catalog commits) else None

-- a catalog is given back; so many marks stay, and no cursor
abbrev pub gone_back : Catalog → ℕ → Session → Session
gone_back catalog count s = record s { phase = given_back catalog s.phase; marks = take count s.marks; cursors = [] }

-- so many marks stay
abbrev pub cut_to : ℕ → Session → Session
cut_to count s = record s { marks = take count s.marks }
