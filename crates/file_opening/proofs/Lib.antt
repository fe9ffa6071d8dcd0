pub mod EmptyCommits
pub mod EmptyFiles
pub mod Exits
pub mod FoundFiles
pub mod NewFiles
pub mod Refusals
pub mod Rooms
pub mod StagedEmpty
