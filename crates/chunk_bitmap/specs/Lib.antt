-- BitsOfBytes: bytes as lists of truth values.
pub mod BitsOfBytes
