pub mod Names
pub mod Back
