mod Worked
pub mod Factoring
pub mod Laws
pub mod Lexemes
pub mod LexemesGive
pub mod LiteralLexemes
pub mod Loops
pub mod Numbering
pub mod Places
