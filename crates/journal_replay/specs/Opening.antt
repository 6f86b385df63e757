-- What opening a journal answers.
use Rattle.std.specs.Prelude.{ℕ, List}
use Rattle.vec_base.specs.declared.shadow.ShadowKey.{ShadowKey}
use Rattle.journal_replay.specs.declared.fill.Filled.{Filled}
use Rattle.journal_replay.specs.declared.fill.Filled.TheVariants as filled
use Rattle.journal_replay.specs.declared.follow.Opened.{Opened}
use Rattle.journal_replay.specs.declared.follow.Opened.TheVariants as opened

-- of each answer what is said of it
abbrev pub FilledAs : Type 0 → Type 0 → Type 0 → Filled → Type 0
FilledAs Whole Short Failed filled.Whole = Whole
FilledAs Whole Short Failed filled.Short = Short
FilledAs Whole Short Failed filled.Failed = Failed

abbrev pub OpenedAs : (ℕ → ℕ → List (ShadowKey × List ℕ) → Type 0) → (ℕ → Type 0) → Type 0 → Type 0 → Opened → Type 0
OpenedAs Ready Damaged Failed Memory (opened.Ready gate number tables) = Ready gate number tables.entries
OpenedAs Ready Damaged Failed Memory (opened.Damaged place) = Damaged place
OpenedAs Ready Damaged Failed Memory opened.Failed = Failed
OpenedAs Ready Damaged Failed Memory opened.Memory = Memory
