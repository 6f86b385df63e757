pub mod ReadBack
pub mod TextAdds
pub mod TextLexemes
pub mod TextParts
pub mod TextStatements
pub mod TextTerms
pub mod Written
