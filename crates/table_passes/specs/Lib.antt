pub mod State
pub mod Settling
pub mod Steps
pub mod Passes
