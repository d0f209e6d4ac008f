pub mod Lines
pub mod NotYet
