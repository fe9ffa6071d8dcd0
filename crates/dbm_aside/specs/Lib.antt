pub mod Copying
pub mod Stops
