pub mod Running
pub mod Looking
