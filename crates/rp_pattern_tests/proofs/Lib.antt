pub mod Grids
pub mod Standing
