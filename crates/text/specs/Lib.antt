pub mod Text
pub mod Points
