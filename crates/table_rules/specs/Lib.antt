pub mod Arrays
pub mod Marks
pub mod Depths
pub mod Sources
pub mod Meaning
pub mod Padding
pub mod Growth
pub mod Cutting
