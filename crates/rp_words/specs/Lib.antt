-- What contracts of public calls cite: forms, the rules of row patterns, the list of words and its laws.
pub mod PatternForm
pub mod Builders
pub mod Bounds
pub mod Variables
pub mod SameTree
pub mod Mapping
pub mod Maps
pub mod Readings
pub mod Words
pub mod Turns
pub mod Later
pub mod WordLaws
pub mod LabelLaws
pub mod Leading
pub mod Movement
pub mod Permutations
-- A bound that contracts of the crates above cite.
pub mod Numbers
