pub mod Loops
pub mod Sequence
pub mod Stages
pub mod Walk
