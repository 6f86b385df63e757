-- the texts of lists, of values and of refusals
pub mod SeparatedTexts
pub mod RefusalTexts
pub mod ValueTexts
