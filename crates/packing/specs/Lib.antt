pub mod Arrays
pub mod Codes
pub mod Packing
