-- The shape of a pattern, and when two queries are the same.
pub mod Shapes
pub mod SameQuery
