-- What contracts of public calls cite: rows that are held, and what the bytes of a checkpoint stand for.
pub mod HeldRows
pub mod Checkpoints
-- The inside: the text of the object.
pub mod ObjectTexts
