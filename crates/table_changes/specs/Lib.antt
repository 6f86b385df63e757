-- Turning: changes that turn the records of a table into those of another one.
-- inner: sets of keys, and what changes make of the bodies of such keys.
pub mod Turning
pub mod inner
