pub mod Refusal
pub mod Stages
pub mod Run
pub mod Sequence
pub mod Walk
