-- inner: what a write makes of a table, and the bytes of versions.
pub mod inner
