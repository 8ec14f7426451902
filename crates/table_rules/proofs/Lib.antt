pub mod Arrays
pub mod Cutting
pub mod Depths
pub mod Growth
pub mod Marks
pub mod Meaning
pub mod Padding
pub mod Sources
