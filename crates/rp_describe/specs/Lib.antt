-- What is said of a query, in the terms of its words and of what its conditions come to.
pub mod Precedes
pub mod Missing
pub mod MissingLaws
pub mod Said
-- The inside: what each part of a condition looks at.
pub mod Looks
