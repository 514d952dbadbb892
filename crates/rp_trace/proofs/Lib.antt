pub mod Derivations
pub mod OnlyReadings
pub mod Trees
pub mod ReadForms
pub mod LineReplies
pub mod RepliesSoFar
pub mod LineFaults
