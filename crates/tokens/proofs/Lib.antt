pub mod Steps
pub mod Named
pub mod Counted
