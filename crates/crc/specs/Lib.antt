pub mod Crc
pub mod Points
