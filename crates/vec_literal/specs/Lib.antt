pub mod Bits
pub mod Faults
pub mod Int8
pub mod Lexemes
pub mod LiteralValues
pub mod Tokens
pub mod inner
