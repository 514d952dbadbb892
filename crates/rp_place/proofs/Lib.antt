mod Aligned
mod Cuts
mod Extending
mod Feeds
mod Rows
mod Seams
mod Widths
