pub mod Limits
pub mod Refusal
pub mod Offsets
pub mod Answers
pub mod Table
pub mod Labels
