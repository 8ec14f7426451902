pub mod Layout
pub mod Decode
pub mod Shape
pub mod Form
pub mod Version1
pub mod Check
pub mod Accepted
pub mod RunSheet
