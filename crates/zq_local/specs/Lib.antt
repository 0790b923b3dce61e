pub mod Picking
pub mod Seated
pub mod Serving
