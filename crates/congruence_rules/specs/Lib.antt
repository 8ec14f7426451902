pub mod Congruence
pub mod Modular
pub mod Euclid
pub mod Divisor
pub mod Greedy
pub mod Theorems
