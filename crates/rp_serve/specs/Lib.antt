-- What contracts of public calls cite: what lines do and what is replied, which replies leave all as it was, what a session does, what is
-- kept after it, and what a fault tells of the devices; the line of what was saved, how requests of HTTP begin, and how long a line is
-- waited for.
pub mod Served
pub mod Changes
pub mod Sessions
pub mod Rounds
pub mod Faults
pub mod SavedLines
pub mod Http
pub mod Waiting
