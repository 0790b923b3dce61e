pub mod Infos
pub mod Texts
pub mod Holders
pub mod Forks
pub mod Skipping
