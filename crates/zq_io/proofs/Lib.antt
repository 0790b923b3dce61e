pub mod Transfers
pub mod Known
pub mod Back
pub mod Split
pub mod Lists
pub mod ValuesBack
