pub mod Name
pub mod Fill
pub mod Parts
