-- What contracts of public calls cite: a feed, its limits, its answers, and the laws of all.
pub mod Limits
pub mod Fed
pub mod Answers
pub mod FedLaws
pub mod Again
-- The inside of a feed: its rows by their places, and what is true of its fields.
pub mod HeldRows
pub mod Consistent
