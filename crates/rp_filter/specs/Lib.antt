-- What contracts of a filter cite: the clause that a condition is read as, which rows meet it, and why a text is no condition.
pub mod Meets
pub mod Faults
