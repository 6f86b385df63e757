-- Reading: a function that reads a part with one token at hand. ReaderResults: what the methods of a reader return by it.
pub mod ReaderResults
pub mod Reading
