pub mod Precedences
pub mod Looking
pub mod Waiting
pub mod Depending
pub mod MissingNull
