-- What contracts of public calls cite: what a line is, what calls do to a device, and what the reads of a run did.
pub mod Counts
pub mod State
pub mod Devices
pub mod Lines
pub mod Pending
pub mod Telling
pub mod Reading
-- The inside of a reader of lines.
pub mod Cuts
