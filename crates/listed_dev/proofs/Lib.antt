pub mod Crossing
pub mod Same
