pub mod FoundLaws
pub mod Tested
pub mod ChoiceSteps
pub mod TurnEnds
pub mod TakingUp
pub mod RunSoFar
mod LeftAlike
pub mod Agreement
pub mod Failing
pub mod Marks
pub mod Tables
pub mod Fresh
pub mod Spending
pub mod Moving
