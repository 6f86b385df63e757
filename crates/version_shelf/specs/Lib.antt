-- Numbers: the catalog of the versions that are shown. OnShelf: catalogs by places. Records: the records of these versions. Shares: versions that
-- follow others.
-- inner: how versions stand in slots.
pub mod Numbers
pub mod OnShelf
pub mod Records
pub mod Shares
pub mod inner
