-- What contracts of public calls cite: what is tested, what a tester has entered, and how its tests go on.
pub mod Tested
pub mod Entered
pub mod Outlives
pub mod Locality
-- The inside: what the tests owe their trait.
pub mod Decided
