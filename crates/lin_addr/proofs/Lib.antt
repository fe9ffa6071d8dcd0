pub mod Highest
pub mod Intervals
pub mod KeyRanks
pub mod Masks
pub mod Precedence
pub mod Ranks
