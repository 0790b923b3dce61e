pub mod Keys
pub mod Line
pub mod Opening
pub mod Speaker
pub mod Storages
pub mod Talk
