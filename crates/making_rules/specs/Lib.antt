pub mod Making
pub mod Claims
