pub mod CanonicalLexemes
pub mod CanonicalParts
pub mod FactoredColumns
pub mod NarrowedNumbers
