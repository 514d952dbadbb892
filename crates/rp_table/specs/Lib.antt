-- What contracts of public calls cite: the texts of records, and that they read back.
pub mod RecordTexts
pub mod ReadBack
-- The inside of gathering them.
pub mod Between
