pub mod Journals
pub mod Places
pub mod Locks
pub mod Fresh
pub mod Crossing
