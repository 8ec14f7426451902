pub mod Depth
pub mod Factors
pub mod Widths
