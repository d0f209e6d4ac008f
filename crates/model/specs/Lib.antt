pub mod Model
pub mod Meaning
pub mod Rows
pub mod Evaluation
pub mod Worked
pub mod Words
pub mod Kept
pub mod Claims
