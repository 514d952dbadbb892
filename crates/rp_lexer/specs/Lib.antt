pub mod Bytes
pub mod Spelling
pub mod Forms
pub mod Lexes
pub mod Faults
pub mod Meanings
pub mod Laws
pub mod Scan
