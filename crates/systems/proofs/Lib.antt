pub mod Alike
pub mod Dictionary
pub mod Entries
pub mod Former
pub mod Laws
pub mod Lists
