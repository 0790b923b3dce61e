pub mod Interests
pub mod Kept
