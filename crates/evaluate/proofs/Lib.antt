pub mod Nodes
pub mod Working
pub mod Runs
