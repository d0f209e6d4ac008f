pub mod Grammar
pub mod Reading
pub mod Fine
pub mod Says
pub mod Bounds
pub mod Claims
pub mod Examples
