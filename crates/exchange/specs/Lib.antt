pub mod Exchange
pub mod Runs
