mod UpperKeys
mod PathParts
mod CellsTaken
mod LinesTaken
mod MembersFound
