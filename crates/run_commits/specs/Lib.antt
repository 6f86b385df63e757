-- Commits: the commits of a run, and the catalog after them.
pub mod Commits
