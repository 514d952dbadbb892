pub mod Blocks
pub mod Faults
pub mod Lists
pub mod Orders
