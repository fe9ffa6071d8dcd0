pub mod Asking
pub mod Building
pub mod CommandLine
pub mod Seconds
pub mod Sorting
