-- What contracts of public calls cite: the record, what a poll comes to, and the laws.
pub mod Records
pub mod Polls
pub mod Walking
pub mod Steps
pub mod FitLaws
pub mod LeftLaw
pub mod Bound
-- What one law alone cites: the older rule of AND and OR.
pub mod EarlierFits
-- The inside: the stages of a walker, its runs, and the rows that are still to be looked at.
pub mod Stages
pub mod Given
pub mod Runs
pub mod Nexts
