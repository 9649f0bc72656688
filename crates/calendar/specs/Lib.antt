pub mod Calendar
pub mod Points
pub mod Meaning
