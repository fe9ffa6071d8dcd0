pub mod Changed
pub mod Ending
pub mod Group
pub mod Numbered
pub mod Over
pub mod Staging
pub mod Whole
