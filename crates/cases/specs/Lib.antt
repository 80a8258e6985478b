pub mod Digits
pub mod Report
