-- What contracts of a question cite: the rows of inputs, those that are asked, and what is written of them.
pub mod Inputs
pub mod Read
pub mod Asked
pub mod Answered
-- The inside.
pub mod Adding
