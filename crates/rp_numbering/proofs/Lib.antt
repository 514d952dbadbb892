pub mod Orders
mod Sinking
mod Numbering
mod Gathering
