pub mod BucketChains
pub mod Flaws
pub mod FreeLists
pub mod Good
pub mod Marks
pub mod Segments
