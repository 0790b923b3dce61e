pub mod Out
pub mod Entry
pub mod Exit
pub mod Leaves
pub mod Denied
pub mod Laws
pub mod Undone
