-- Gates: files with a gate behind a front. Moments: what a stop leaves over several calls of a disk.
pub mod Gates
pub mod Moments
