pub mod Composition
pub mod Distinguishing
pub mod DepthBound
