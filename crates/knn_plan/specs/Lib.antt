-- Levels: where terms are tested. PlannedColumns: what names mean. Plans: what a plan shows, and what it says of columns. TermUses: for what a
-- term is good.
pub mod Levels
pub mod PlannedColumns
pub mod Plans
pub mod TermUses
