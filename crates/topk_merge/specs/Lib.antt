pub mod Hits
pub mod Ranking
