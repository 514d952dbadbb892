-- What the tests of searches cite: their own rows, with a written answer for each.
pub mod Grid
pub mod GridDecides
pub mod Standing
