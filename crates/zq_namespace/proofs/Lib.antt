pub mod Keeping
pub mod Within
pub mod Following
