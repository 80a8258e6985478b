pub mod Bools
pub mod Each
pub mod Pieces
pub mod Seams
pub mod Next
