pub mod Makes
pub mod VersionBytes
