pub mod Answered
pub mod Machine
pub mod Theorems
