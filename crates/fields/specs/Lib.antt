pub mod Bytes
pub mod Names
pub mod Element
pub mod Elements
pub mod Values
