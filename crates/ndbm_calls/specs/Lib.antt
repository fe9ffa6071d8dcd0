pub mod Closing
pub mod Groups
pub mod Statuses
pub mod Verdicts
