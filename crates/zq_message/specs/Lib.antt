pub mod Kept
pub mod Region
pub mod RegionMap
pub mod RegionMapLends
