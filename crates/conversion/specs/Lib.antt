pub mod Clock
pub mod Conversion
