pub mod Access
pub mod Machine
pub mod Answered
