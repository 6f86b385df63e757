-- Units: records of a chunk that are made of units of one width.
-- inner: what units are put together from.
pub mod Units
pub mod inner
