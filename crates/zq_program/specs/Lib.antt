pub mod Faults
pub mod Working
pub mod Shares
pub mod Words
pub mod Parts
pub mod Printing
pub mod SharedPrinting
pub mod Running
