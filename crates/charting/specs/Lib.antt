pub mod Tabled
