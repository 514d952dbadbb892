-- What contracts of public calls cite: programs, what their places stand for, and how many turns they take.
pub mod Programs
pub mod Costs
-- Parts of a pattern, each as its words and its turns.
pub mod Parts
-- The inside: places and what they stand for, and a program in the making.
pub mod Places
pub mod Drafts
pub mod Sets
