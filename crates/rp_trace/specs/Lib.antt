-- What contracts of public calls cite: the patterns of `trace`, what is written for a line, and what a run tells of its reads.
pub mod Bytes
pub mod Limits
pub mod Grammar
pub mod Reading
pub mod Replies
pub mod LetterTest
pub mod Faults
-- The inside of a line's search.
pub mod LetterLaws
pub mod LetterRows
