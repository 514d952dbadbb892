-- What contracts of public calls cite: values, names, sums, truth values, tables, rows and lists of rows.
pub mod Compared
pub mod Order
pub mod Names
pub mod Arithmetic
pub mod Sums
pub mod Truth
pub mod TruthLaws
pub mod Tables
pub mod Rows
pub mod RowLists
-- The inside of a list of rows.
pub mod Blocks
