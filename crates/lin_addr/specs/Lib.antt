pub mod Intervals
pub mod Shapes
