pub mod Header
pub mod Shape
pub mod HeaderLaws
pub mod Classes
pub mod Acting
