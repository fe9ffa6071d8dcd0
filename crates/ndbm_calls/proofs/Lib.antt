pub mod Ended
pub mod Statuses
pub mod Told
