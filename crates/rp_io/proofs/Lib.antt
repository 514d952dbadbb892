pub mod Written
pub mod Writes
pub mod Kept
pub mod Giving
pub mod Cutting
pub mod Told
pub mod Calls
pub mod SoFar
