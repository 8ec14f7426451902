pub mod Answered
pub mod Kept
pub mod Refusals
pub mod Theorems
