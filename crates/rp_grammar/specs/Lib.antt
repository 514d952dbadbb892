pub mod Reading
pub mod Grammar
pub mod Readers
pub mod Meaning
pub mod Names
pub mod Texts
