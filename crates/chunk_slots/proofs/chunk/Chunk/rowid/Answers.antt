use Rattle.std.proofs.Common.{◌≡◌, ℕ, ℤ, List, Option, Some, None, refl, ap, sym, ◌∙◌, get_or}
use Rattle.chunk_slots.specs.Slots.{rowid_of}
use Rattle.chunk_slots.specs.inner.Blocks.{VectorColumn}
use Rattle.chunk_slots.specs.inner.Columns.{slot_in}
use Rattle.chunk_slots.proofs.ChunkLaws.{row_within, slot_seen}
use Rattle.chunk_slots.proofs.chunk.Chunk.rowid.Goals as goal

rowid_in : (columns : List VectorColumn) (slot : ℕ) (row : Option ℤ) → row ≡ rowid_of (slot_in columns slot row)
rowid_in columns slot None = refl
rowid_in columns slot (Some rowid) = refl

pub rowid-requires : goal.rowid-requires
rowid-requires c = row_within c.self.inside.columns.items c.self.inside.rows c.args.self.now c.args.slot c.self.view_is c.requires

pub returns : goal.returns
returns c =
    c.rowid.ensures
    ∙ rowid_in c.self.inside.columns.items c.args.slot (get_or c.self.inside.rows c.args.slot None)
    ∙ ap rowid_of (sym (slot_seen c.self.inside.columns.items c.self.inside.rows c.args.self.now c.args.slot c.self.view_is))
