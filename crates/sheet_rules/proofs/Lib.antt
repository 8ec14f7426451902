pub mod Accepted
pub mod Fits
pub mod Listed
pub mod Overlap
pub mod RunSheet
pub mod Shape
pub mod Version1
