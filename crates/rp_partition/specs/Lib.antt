pub mod Feeds
pub mod PartRows
pub mod Joined
pub mod Polling
pub mod Taking
