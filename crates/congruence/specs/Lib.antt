pub mod Tails
pub mod Machine
