-- What contracts of public calls cite: an object behind its digest.
pub mod Sealed
