pub mod Cuts
pub mod Parts
pub mod Numbers
pub mod Names
pub mod Elements
pub mod Verdicts
pub mod Faults
pub mod Values
