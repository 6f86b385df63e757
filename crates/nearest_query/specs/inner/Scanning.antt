-- What a scan of chunks finds, offers and counts.
use Rattle.std.specs.Prelude.{◌≡◌, ℕ, zero, suc, Bool, true, List, filter, flat_map, Some, None}
use Rattle.std.specs.List.{list_all}
use Rattle.vec_base.specs.Counts.{raised}
use Rattle.vec_base.specs.inner.Offers.{offered}
use Rattle.row_model.specs.Answer.{distance_at}
use Rattle.row_model.specs.Schemas.{is_metadata}
use Rattle.row_model.specs.declared.schema.Column.{Column}
use Rattle.row_model.specs.declared.statement.Constraint.{Constraint}
use Rattle.knn_plan.specs.Levels.{meets_on, meets_bound}
use Rattle.knn_plan.specs.Plans.{Planned, PlannedTarget, IsPlanFor}
use Rattle.shadow_records.specs.PlacedTables.{PlacedRow, PlacedTable, IsPlaced, first_in, row_at}
use Rattle.topk_merge.specs.declared.hit.Hit.{Hit}
use Rattle.topk_merge.specs.Hits.{is_before}
use Rattle.topk_merge.specs.Ranking.{Ranking}
use Rattle.nearest_query.specs.Gathered.{found_in}
use Rattle.nearest_query.specs.Searches.{is_read, meets_all_on_partition}

-- the row meets all terms on metadata columns
abbrev pub meets_all_on_metadata : PlacedTable → List Constraint → PlacedRow → Bool
meets_all_on_metadata table terms placed = list_all (meets_on is_metadata table.schema.columns placed.row) terms

-- a chunk with rows, which all meet the terms on partition columns
pub record IsMetChunk (table : PlacedTable) (terms : List Constraint) (chunk : ℕ) : Type 0 where
  pub there : first_in table.rows chunk ≡ None → ⊥
  pub met : (placed : PlacedRow) (slot : ℕ) → row_at table.rows chunk slot ≡ Some placed → meets_all_on_partition table terms placed ≡ true

-- a row's distance from the target, with its rowid
abbrev pub row_hit : PlannedTarget → PlacedRow → Hit
row_hit target placed = record { distance = distance_at target.column.place target.query placed.row; rowid = placed.row.rowid }

abbrev pub is_read_row : PlacedTable → List Constraint → PlacedRow → Bool
is_read_row table terms placed = is_read table.schema.columns terms placed.row

-- of the rows of a chunk whose vectors are read, by slots
abbrev pub hits_in : PlacedTable → List Constraint → PlannedTarget → ℕ → List Hit
hits_in table terms target chunk = found_in (is_read_row table terms) (row_hit target) table.rows table.schema.chunk_size chunk

-- in chunks, one after another
abbrev pub hits_over : PlacedTable → List Constraint → PlannedTarget → List ℕ → List Hit
hits_over table terms target chunks = flat_map (hits_in table terms target) chunks

-- the distance meets the terms on it
abbrev pub is_within : List Column → List Constraint → Hit → Bool
is_within columns terms hit = list_all (meets_bound columns hit.distance) terms

-- hits are offered, where their distances meet the terms on it
abbrev pub with_offers : List Column → List Constraint → Ranking → List Hit → Ranking
with_offers columns terms best hits = record { room = best.room; hits = offered is_before best.room best.hits (filter (is_within columns terms) hits) }

-- so many reads are counted
abbrev pub ticked : ℕ → ℕ → ℕ
ticked reads zero = reads
ticked reads (suc n) = raised (ticked reads n)

-- ---- what a search relies on

-- the table is sound, the plan is for its columns, and the vector is that of its MATCH
pub record IsReady (table : PlacedTable) (plan : Planned) (target : PlannedTarget) : Type 0 where
  pub placed : IsPlaced table
  pub plan_for : IsPlanFor table.schema.columns plan
  pub target_is : plan.target ≡ Some target
