pub mod ToldSets
pub mod Telling
pub mod Rooms
pub mod Receiver
pub mod Laws
pub mod Leaving
pub mod Moved
