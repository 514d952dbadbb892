pub mod FirstTokens
pub mod Laws
pub mod Loops
pub mod MeaningLaws
pub mod Names
pub mod Texts
pub mod Whole
