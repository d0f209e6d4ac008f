pub mod Checked
pub mod FieldLaws
pub mod Fields
pub mod Floors
pub mod Sums
