pub mod Answers
pub mod FreeList
pub mod Giving
