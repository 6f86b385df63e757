-- Slots: what the slots of a chunk hold, and what calls make of it.
-- inner: how the parts of a chunk give its slots.
pub mod Slots
pub mod inner
