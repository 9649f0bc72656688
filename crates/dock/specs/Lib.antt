pub mod Dumped
pub mod Registers
pub mod Entries
pub mod Listing
pub mod Points
