pub mod Walk
pub mod Highest
pub mod Chain
pub mod Lawful
pub mod Search
