pub mod Asking
pub mod Besides
pub mod Keeping
pub mod Under
pub mod Walking
pub mod Writing
pub mod Folders
