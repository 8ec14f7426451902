pub mod Composition
pub mod DepthBound
pub mod Distinguishing
