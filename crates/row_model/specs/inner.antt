pub mod ComparableVectors
