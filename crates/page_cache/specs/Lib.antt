pub mod Copies
pub mod Current
pub mod Room
pub mod Stores
