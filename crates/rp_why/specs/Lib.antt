pub mod Seeking
pub mod Sought
