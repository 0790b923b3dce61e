pub mod Callers
pub mod Passing
