-- What contracts of public calls cite: where csv stands in the quotes of a text, and that a text leaves one open.
pub mod Quotes
-- The inside of a watch.
pub mod Watching
