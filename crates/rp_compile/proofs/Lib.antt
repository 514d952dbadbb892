pub mod Refusing
pub mod OneQuery
