pub mod Header
pub mod Limits
pub mod BoxFits
