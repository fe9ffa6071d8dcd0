pub mod Building
pub mod Naming
pub mod Reading
pub mod Refusing
