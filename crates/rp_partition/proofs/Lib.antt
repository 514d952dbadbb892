mod Rows
mod Feeds
mod Dropping
mod Taking
mod Bounds
