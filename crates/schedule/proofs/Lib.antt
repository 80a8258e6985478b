pub mod Reached
pub mod Next
pub mod Labels
