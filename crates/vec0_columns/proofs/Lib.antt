pub mod Answering
pub mod ColumnChoices
pub mod ColumnLines
pub mod Lengths
pub mod Narrowing
pub mod OneAnswer
pub mod RoundTrip
pub mod Written
