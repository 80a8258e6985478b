pub mod Limits
pub mod Number
pub mod Block
pub mod Written
