-- What contracts of public calls cite: choices, outlooks and their turns.
pub mod Choices
pub mod Outlooks
pub mod Prepared
-- The inside: continuations, and what is taken up.
pub mod PermutedParts
pub mod Continuations
pub mod Splits
-- Ways to go on, by linked parts or by places of a program.
pub mod Rests
pub mod Linked
pub mod Placed
pub mod Ways
-- Which places an outlook has come to.
pub mod Visited
