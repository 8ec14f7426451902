pub mod Counting
pub mod Landing
pub mod Volumes
pub mod Tight
pub mod Shares
pub mod Regions
