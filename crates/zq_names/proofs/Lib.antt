mod Edits
mod Sides
pub mod Joined
pub mod TextOrder
pub mod Rows
pub mod Table
pub mod Insertion
pub mod Adding
pub mod Heads
pub mod Removal
pub mod Below
pub mod Cleaning
pub mod Pruning
pub mod Forgetting
pub mod Fresh
pub mod Fronts
pub mod Same
pub mod Copies
pub mod LinkLemmas
pub mod KeepingLemmas
pub mod ClosingLemmas
pub mod Idling
mod KnownLemmas
mod Descent
