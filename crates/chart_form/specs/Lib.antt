pub mod Form
pub mod Records
pub mod Passed
pub mod Bars
