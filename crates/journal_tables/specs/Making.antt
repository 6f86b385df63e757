-- What making batches on tables in memory answers.
use Rattle.std.specs.Prelude.{◌≡◌, ◌≢◌, ℕ, ◌+◌, ◌<◌, Bool, true, false, if◌then◌else◌, List, ◌++◌, length, take, drop, slice_index, Option, Some, None}
use Rattle.vec_base.specs.declared.shadow.Change.{Change}
use Rattle.shadow_records.specs.Batches.{applied}
use Rattle.shadow_records.specs.Keys.{Tables}
use Rattle.journal_format.specs.Fields.{◌>>=◌, changes_of}
use Rattle.journal_format.specs.Fitting.{all_apply}
use Rattle.journal_format.specs.Fronts.{Leads}
use Rattle.journal_format.specs.Reading.{batch_at}
use Rattle.journal_tables.specs.declared.blocks.Block.{Block}
use Rattle.journal_tables.specs.declared.blocks.Block.TheVariants as block
use Rattle.journal_tables.specs.declared.blocks.Stop.{Stop}
use Rattle.journal_tables.specs.declared.blocks.Stop.TheVariants as stop

-- the tables after the changes that the bytes are, where these apply
unfoldable pub tables_after : List ℕ → Tables → Option Tables
tables_after bytes tables = changes_of bytes >>= λ changes. if all_apply changes tables then Some (applied changes tables) else None

-- the batch that was read is made, or none was read
abbrev pub MakesBatch : Option (List Change) → Tables → Bool → Tables → Type 0
MakesBatch read old true new = (changes : List Change) × (read ≡ Some changes) × (new ≡ applied changes old)
MakesBatch read old false new = read ≡ None

-- What stands behind an open gate: a batch with a body of this length, which is made; or none, whatever follows; or the bytes are short: in fewer than
-- those that are needed there is none, and nothing was made.
abbrev pub BlockIs : List ℕ → ℕ → Tables → Tables → Block → Type 0
BlockIs bytes n old new (block.Made len) =
    (found : List Change × (ℕ × List ℕ)) × (batch_at bytes n old ≡ Some found) × (found.1.0 ≡ len) × (new ≡ applied found.0 old)
BlockIs bytes n old new block.Damaged = (more : List ℕ) → batch_at (bytes ++ more) n old ≡ None
BlockIs bytes n old new (block.Short needed) =
    (length bytes < needed) × (new ≡ old) × ((more : List ℕ) → length (bytes ++ more) < needed → batch_at (bytes ++ more) n old ≡ None)

-- The bytes up to a place go on with what stood before them: they hold whole batches, from this number and these tables to those.
abbrev pub GoesOn : List ℕ → ℕ → Tables → ℕ → Tables → Type 0
GoesOn bytes n old m new = (front : List ℕ) → Leads front n old → Leads (front ++ bytes) m new

-- Where the batches among the bytes end: at a closed gate; at an open gate without a batch, whatever follows; or at an open gate whose batch reaches
-- past the bytes, if there is one.
abbrev pub StopsAt : List ℕ → ℕ → Tables → ℕ → ℕ → Tables → Stop → Type 0
StopsAt bytes n old at m new stop.Closed = (slice_index bytes at ≢ 1) × GoesOn (take at bytes) n old m new
StopsAt bytes n old at m new stop.Damaged = (slice_index bytes at ≡ 1)
    × ((tables : Tables) × GoesOn (take at bytes) n old m tables × ((more : List ℕ) → batch_at (drop (at + 1) bytes ++ more) m tables ≡ None))
StopsAt bytes n old at m new (stop.Short needed) = (slice_index bytes at ≡ 1) × GoesOn (take at bytes) n old m new × (length bytes < at + 1 + needed)
    × ((more : List ℕ) → length (drop (at + 1) bytes ++ more) < needed → batch_at (drop (at + 1) bytes ++ more) m new ≡ None)
