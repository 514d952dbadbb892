-- What a query means, as plain data.
pub mod Scopes
pub mod Reach
pub mod Formulas
pub mod SkipRules
pub mod Definitions
pub mod QueryView
pub mod Keys
pub mod Changes
-- What each query meets.
pub mod Kinds
pub mod Allowed
pub mod Sound
-- What the conditions of a query depend on.
pub mod Locality
pub mod LooksBack
