pub mod Nth
pub mod Whole
