pub mod Shed
