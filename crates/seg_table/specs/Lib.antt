pub mod Answers
pub mod Heads
pub mod MetaPages
pub mod Placements
pub mod Segments
pub mod Setting
