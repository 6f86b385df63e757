-- Changes: what becomes of the used places. Places: which places of a table are used, and with which partition values. SlotRule: which place a
-- new row takes.
-- inner: how the places are kept, the order of values that the code searches by, and what a search finds.
pub mod Changes
pub mod Places
pub mod SlotRule
pub mod inner
