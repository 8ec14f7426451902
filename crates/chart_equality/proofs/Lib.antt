pub mod Numbered
pub mod SameBytes
