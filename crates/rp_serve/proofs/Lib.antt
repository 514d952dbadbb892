mod Answered
mod Taken
mod Serving
mod NextLine
mod ReadParts
mod Ends
mod Watching
