-- What contracts of public calls cite: the answers over rows and of an input's text, as lines, records and objects, that rows fit their
-- table, and what a fault says.
pub mod Answers
pub mod AnswerLines
pub mod AnswerRows
pub mod AnswerRecords
pub mod AnswerObjects
pub mod Fitting
pub mod Named
pub mod Limits
pub mod Faults
-- The inside of writing them.
pub mod Writing
pub mod Pauses
