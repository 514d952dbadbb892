-- What contracts of public calls cite: keys and lines, what is exchanged for which replies, what was exchanged in a run and what a
-- conversation came to, what a fault tells of the devices, and how many lines went through one.
pub mod Keys
pub mod Lines
pub mod Exchange
pub mod Exchanged
pub mod Conversations
pub mod Faults
pub mod Counted
-- The inside: the replies that are still to come of a reader.
pub mod Listening
