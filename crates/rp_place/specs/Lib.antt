-- What contracts of public calls cite: lines and places in a text, characters as they are shown, drawings, their marks.
pub mod Lines
pub mod Places
pub mod Shown
pub mod Drawn
pub mod Marks
