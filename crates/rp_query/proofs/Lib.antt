pub mod KeyFaults
mod ByVariable
