pub mod Counting
pub mod Members
pub mod Positions
pub mod Rehearsals
pub mod Sessions
