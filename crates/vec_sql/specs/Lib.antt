-- CanonicalStatements: the one text that is written for a statement.
pub mod CanonicalStatements
