pub mod Numbers
pub mod Stored
pub mod ChartBytes
pub mod BoxBytes
pub mod Written
