pub mod Euclid
pub mod SetPoint
