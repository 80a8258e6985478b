pub mod Syncs
