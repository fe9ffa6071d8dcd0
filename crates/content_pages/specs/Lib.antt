pub mod Answers
pub mod Contents
pub mod Staging
