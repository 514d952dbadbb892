mod Keeping
mod Readiness
mod Dropping
