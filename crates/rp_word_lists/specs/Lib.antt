-- The inside: lists on the way.
pub mod Listing
