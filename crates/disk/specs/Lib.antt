pub mod Limits
pub mod Contents
pub mod Changes
