pub mod Entries
pub mod Passes
pub mod Stepping
pub mod Locking
