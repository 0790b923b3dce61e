pub mod Built
pub mod Selection
pub mod Filter
pub mod Taken
pub mod Routes
pub mod RoutesLends
