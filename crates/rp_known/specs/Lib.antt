-- What contracts of public calls cite: the known partition, the items and where the walk goes, and the laws.
pub mod Known
pub mod Plans
pub mod Skips
pub mod Items
pub mod Walk
pub mod WalkLaws
pub mod Named
pub mod Typed
-- What one law alone cites: the older rule of AND and OR.
pub mod Earlier
