-- Writing: the bytes of other tables, and the statements whose rows a plan finds.
-- inner: groups of values that the checks take, rowids one after another, new values, and bytes counted in 64 bits.
pub mod Writing
pub mod inner
