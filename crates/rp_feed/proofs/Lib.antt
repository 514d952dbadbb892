pub mod Answering
pub mod Places
pub mod Ordered
pub mod Again
