pub mod Compiled
pub mod OneQuery
