mod Going
mod Steps
mod Hearing
mod Longer
mod Whole
mod ReadParts
