-- What contracts cite: the names of what lies beside a node's file.
pub mod Names
