pub mod AsBox
pub mod Crossing
pub mod Holding
pub mod Telling
