pub mod Match
pub mod Due
pub mod Search
