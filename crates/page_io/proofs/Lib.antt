pub mod BucketPages
pub mod CommitResults
pub mod Exits
pub mod Fields
pub mod Meanings
pub mod Memory
mod MemoryAnswers
pub mod Overlays
pub mod OwnNumbers
pub mod PageLaws
pub mod PageLists
mod Places
pub mod PlainPages
pub mod Runs
mod Slices
pub mod StagedPages
pub mod Views
