pub mod Separation
pub mod Refusals
pub mod Kept
pub mod Theorems
pub mod Answered
