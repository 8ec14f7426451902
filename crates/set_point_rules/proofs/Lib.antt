pub mod Euclid
pub mod Theorems
