pub mod Crossing
pub mod KeyTexts
pub mod Opened
