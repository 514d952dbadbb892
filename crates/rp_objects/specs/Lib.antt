-- What contracts of public calls cite: the rows of a text of objects, and its first fault.
pub mod Paths
pub mod Cells
pub mod ObjectRows
-- The inside.
pub mod Seen
pub mod Given
