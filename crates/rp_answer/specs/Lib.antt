-- What contracts of public calls cite: what is seen of a matcher, and what a poll comes to.
pub mod MatcherData
pub mod Matching
-- The inside: the rows that are kept.
pub mod Kept
