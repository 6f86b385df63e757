-- Fields: what stands at the front of bytes. Fitting: the test whether changes apply. Format: how batches stand in a journal. Fronts: what the
-- bytes before a gate stand for. Reading: the batches of a journal, or the place where it is damaged. Views: changes as they lie in bytes.
pub mod Fields
pub mod Fitting
pub mod Format
pub mod Fronts
pub mod Reading
pub mod Views
