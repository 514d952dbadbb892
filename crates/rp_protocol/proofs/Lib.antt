mod FieldTexts
mod Onto
mod Plain
pub mod Texts
mod PacketTexts
mod Objects
mod ObjectsFound
mod Back
mod CellTexts
mod Law
mod LineTexts
mod PlainTexts
mod RequestLaw
mod RequestObjects
