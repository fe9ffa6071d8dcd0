pub mod CarriedPlans
pub mod Carrying
pub mod KeptPages
pub mod Statuses
pub mod Tries
pub mod Wording
