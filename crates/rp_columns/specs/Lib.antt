-- What contracts of public calls cite: the value of a field by its reading.
pub mod Zones
pub mod Fronts
pub mod Decimals
pub mod Instants
pub mod Formats
pub mod Readings
pub mod Headings
pub mod Loaded
-- The text of columns.
pub mod ColumnsGrammar
pub mod Resolved
pub mod ColumnsText
pub mod Given
-- The inside of reading a number.
pub mod Holding
