pub mod Agree
pub mod Writes
pub mod Heads
pub mod Tables
pub mod Constraints
