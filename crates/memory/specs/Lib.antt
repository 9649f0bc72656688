pub mod Hear
pub mod Send
pub mod Memory
pub mod Range
pub mod Phases
pub mod Runs
