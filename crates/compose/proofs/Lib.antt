pub mod Decoded
pub mod Settled
pub mod Trees
pub mod Stays
pub mod Symbols
pub mod Arrays
pub mod Constraints
