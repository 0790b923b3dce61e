pub mod Kept
pub mod Halves
mod GoingRound
