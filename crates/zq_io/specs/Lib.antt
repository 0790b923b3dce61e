pub mod Streams
pub mod Words
pub mod Values
pub mod Fits
