-- Batches: what changes make of kept records. Cells: the bytes of values. Keys: the order of keys, and kept records as a finite map. PlacedTables:
-- tables whose rows have places, and when these are sound. Records: the body that each key of such a table has. StandsFor: the catalog that records
-- stand for.
-- inner: changes followed at one key.
pub mod Batches
pub mod Cells
pub mod Keys
pub mod PlacedTables
pub mod Records
pub mod StandsFor
pub mod inner
