pub mod Words
pub mod Writing
