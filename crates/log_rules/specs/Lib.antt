pub mod Compare
pub mod Listed
