pub mod Answered
pub mod Divisor
pub mod Euclid
pub mod Greedy
pub mod Modular
pub mod Theorems
