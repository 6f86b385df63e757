-- What the program does, whatever its words are.
use Rattle.std.specs.Prelude.{◌≡◌, ◌⊎◌, ◌&&◌, ℕ, Bool, true, false, List, None, Some}
use Rattle.std.specs.List.{list_any}
use Rattle.std.specs.declared.option.Option.{Option}
use Rattle.vec_base.specs.Streams.{Rose, Gains}
use Rattle.row_model.specs.declared.state.State.{State}
use Rattle.row_model.specs.declared.request.Reply.{Reply}
use Rattle.row_model.specs.Machine.{no_tables}
use Rattle.row_model.specs.Shelled.{Shelled}
use Rattle.vec_words.specs.Configs.{config_of}
use Rattle.vec_words.specs.declared.config.Config.{Config}
use Rattle.vec_words.specs.declared.config.Mode.{Mode}
use Rattle.vec_words.specs.declared.config.Mode.TheVariants as modes
use Rattle.vec_words.specs.declared.config.Store.{Store}
use Rattle.vec_words.specs.declared.config.Store.TheVariants as stores
use Rattle.vec_shell.specs.declared.shell.Ending.TheVariants.{Whole}
use Rattle.vec_shell.specs.ShellTexts.{Reads}
use Rattle.vec_shell.specs.Runs.{StreamChange, IsRun}
use Rattle.vec_shell.specs.Fronts.{IsFront}
use Rattle.vec_shell.specs.Statuses.{is_refused, is_faulted, is_starved}

abbrev pub is_shell_mode : Mode → Bool
is_shell_mode modes.Shell = true
is_shell_mode (modes.Serve connections) = false
is_shell_mode (modes.Load table) = false
is_shell_mode (modes.Dump table) = false
is_shell_mode (modes.Sample seed rows) = false

abbrev pub is_in_memory : Store → Bool
is_in_memory stores.InMemory = true
is_in_memory (stores.Journal path) = false
is_in_memory (stores.Sqlite path) = false

-- the shell over tables in memory; no other mode and no other store is served yet
abbrev pub is_served_config : Option Config → Bool
is_served_config None = false
is_served_config (Some config) = is_shell_mode config.mode && is_in_memory config.store

-- the words, the program's name first, spell a configuration that is served
abbrev pub is_shell : List (List ℕ) → Bool
is_shell words = is_served_config (config_of words)

-- the line was written, or a front of it where the sink's count of faults rose
abbrev pub LastLine : List ℕ → Option (List ℕ) → Option (List ℕ) → ℕ → ℕ → Type 0
LastLine line taken taken' faults faults' =
    Gains taken line taken' ⊎ ((front : List ℕ) × IsFront front line × Gains taken front taken' × Rose faults faults')

-- A run of the shell: one session is opened over no tables, and its texts get these replies.
abbrev pub IsShellRun : State → StreamChange → ℕ → Type 0
IsShellRun last change status = IsRun (Shelled Reads no_tables) last change status

-- a run of the shell that came to the end of its input, with such replies
abbrev pub IsWholeRun : (List Reply → Type 0) → StreamChange → ℕ → Type 0
IsWholeRun Such change status = (last : State) × (ran : IsShellRun last change status) × (ran.ending ≡ Whole) × Such ran.replies

-- some reply is a refusal 1 to 23
abbrev pub SomeRefused : List Reply → Type 0
SomeRefused replies = list_any is_refused replies ≡ true

-- some reply is refusal 25, and none is a refusal 1 to 24
abbrev pub OnlyStarved : List Reply → Type 0
OnlyStarved replies =
    (list_any is_refused replies ≡ false) × (list_any is_faulted replies ≡ false) × (list_any is_starved replies ≡ true)

-- no reply is a refusal
abbrev pub NoneRefused : List Reply → Type 0
NoneRefused replies =
    (list_any is_refused replies ≡ false) × (list_any is_faulted replies ≡ false) × (list_any is_starved replies ≡ false)
