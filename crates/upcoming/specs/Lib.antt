pub mod Number
pub mod Parted
