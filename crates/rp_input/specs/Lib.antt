-- What contracts of public calls cite: the records and the rows of a text, and what a fault says.
pub mod Fields
pub mod Headers
pub mod CsvRows
pub mod Layouts
pub mod Placed
pub mod ByColumns
pub mod Devices
pub mod SameFields
pub mod Standing
-- The inside of reading a text.
pub mod Beginning
