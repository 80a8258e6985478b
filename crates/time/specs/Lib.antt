pub mod Limits
pub mod Position
