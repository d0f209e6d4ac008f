pub mod Floors
pub mod Order
pub mod Ring
pub mod Sizes
pub mod Sums
