pub mod Parts
pub mod Stores
pub mod Choose
pub mod Tests
pub mod Each
pub mod Bits
pub mod Parting
pub mod Bytes
