pub mod Fridays
