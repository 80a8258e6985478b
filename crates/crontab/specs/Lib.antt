pub mod Limits
pub mod Refusal
pub mod Words
pub mod Job
pub mod Line
pub mod File
pub mod Lines
