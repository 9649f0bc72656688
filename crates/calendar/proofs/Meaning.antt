pub mod Sums
pub mod Fields
pub mod Hours
pub mod Months
pub mod Days
pub mod Seconds
pub mod Unique
pub mod Laws
