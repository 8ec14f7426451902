pub mod Three
pub mod Fields
pub mod Space
pub mod Cuts
pub mod Bounds
