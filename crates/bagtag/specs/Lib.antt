pub mod Bagtag
pub mod Line
