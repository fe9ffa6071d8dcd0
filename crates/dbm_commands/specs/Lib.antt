pub mod Outcomes
pub mod Printing
pub mod Verifying
pub mod Words
