pub mod Completed
pub mod Printed
pub mod Sessions
