-- What contracts of public calls cite: what is found, what is asked, and what a search does.
pub mod Found
pub mod SeenStays
pub mod FoundLaws
pub mod Asked
pub mod Locality
pub mod Agreement
pub mod Search
-- The inside of a search.
pub mod Refused
pub mod Fits
pub mod Turned
-- What it remembers of where it failed.
pub mod Lasting
pub mod Table
pub mod Memo
pub mod Work
pub mod Bound
