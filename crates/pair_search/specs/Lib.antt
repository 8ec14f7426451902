pub mod Classes
pub mod Queue
pub mod Comparing
pub mod Progress
pub mod Search
