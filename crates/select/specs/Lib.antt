pub mod Select
pub mod Runs
