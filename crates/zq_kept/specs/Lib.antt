pub mod Current
pub mod Parts
pub mod Picked
pub mod Table
