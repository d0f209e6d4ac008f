pub mod Parts
pub mod Ranges
pub mod Told
pub mod Tabled
