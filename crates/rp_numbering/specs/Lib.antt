-- What contracts of public calls cite: the partitions of rows, their order, and the packets of rows.
pub mod Orders
pub mod Partitions
pub mod Gathering
pub mod Numbered
