pub mod Reader
pub mod Due
pub mod Worked
