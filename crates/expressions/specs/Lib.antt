pub mod Made
pub mod Places
pub mod Signs
pub mod Conditions
pub mod Sums
