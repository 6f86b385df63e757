-- FactoredStatements: the lines with equal beginnings taken together. ParameterSummaries: what is known of parameters so far.
-- PartMeanings: what the parts of a given statement mean, and what is answered. WellFormedGivens: what holds of each given
-- statement that is read.
pub mod FactoredStatements
pub mod ParameterSummaries
pub mod PartMeanings
pub mod WellFormedGivens
