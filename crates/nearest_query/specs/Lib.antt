-- Gathered: what is found of rows at places, place by place. Searches: what a search answers, which rows it reads and which chunks it looks into.
-- inner: what a scan of chunks finds, offers and counts, piece by piece.
pub mod Gathered
pub mod Searches
pub mod inner
