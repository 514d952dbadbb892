pub mod Tree
pub mod Paths
pub mod Terms
pub mod Clauses
