pub mod Steps
pub mod Parsed
pub mod Reading
