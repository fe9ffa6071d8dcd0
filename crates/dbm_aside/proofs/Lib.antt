pub mod Copies
pub mod Endings
