pub mod Told
pub mod Spelling
pub mod Sizes
